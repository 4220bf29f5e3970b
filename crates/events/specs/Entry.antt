-- An event in the book and as text. Assumes nothing.
use Rattle.std.specs.Prelude.{List, [], ℕ, eqb, set}
use Rattle.laws.specs.Pick.{pick}
use Rattle.history.specs.Seen.{in_area}
use Rattle.wording.specs.Events.{start_text, stop_text, resume_text, dropped_text, landed_text, whole_text, touched_text}
use Rattle.events.specs.Book.{noted, more, lines, writes, first, last}
use Rattle.events.specs.Book as book
use Rattle.events.specs.Event.{Event, none, start, stop, resume, dropped, landed, whole, touched}

-- the text of an event, with its line's number
unfoldable pub event_text : ℕ → Event → List ℕ
event_text n none = []
event_text n (start serial image row registers) = start_text n serial image row registers
event_text n (stop serial cycles) = stop_text n serial cycles
event_text n (resume serial cycles) = resume_text n serial cycles
event_text n (dropped serial cycles) = dropped_text n serial cycles
event_text n (landed serial at byte) = landed_text n serial (in_area at) at byte
event_text n (whole serial cycles plate) = whole_text n serial cycles plate
event_text n (touched serial cycles plate writes first last) = touched_text n serial cycles plate writes first last

-- a bus write in the picture area since the start, on the line that is counted
unfoldable pub touch_counted : List ℕ → List ℕ
touch_counted b =
    more (set (set b first (pick (eqb (noted b writes) 0) (noted b lines) (noted b first))) last (noted b lines)) writes

-- an event is counted
unfoldable pub event_counted : List ℕ → Event → List ℕ
event_counted b none = b
event_counted b (start serial image row registers) = more (set b writes 0) book.captures
event_counted b (stop serial cycles) = b
event_counted b (resume serial cycles) = b
event_counted b (dropped serial cycles) = more b book.dropped
event_counted b (landed serial at byte) = pick (in_area at) (touch_counted b) b
event_counted b (whole serial cycles plate) = more (more b book.ended) book.whole
event_counted b (touched serial cycles plate writes first last) = more b book.ended
