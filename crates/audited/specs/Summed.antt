-- What a summary counts. Assumes nothing.
use Rattle.std.specs.Prelude.{◌≡◌, Bool, true, false, not, ◌&&◌, List, [], ◌∷◌, ℕ, ◌+◌, ◌-◌}
use Rattle.laws.specs.Pick.{pick}
use Rattle.history.specs.History.{Call}
use Rattle.history.specs.Seen.{start_seen, end_seen}
use Rattle.lines.specs.Line.{frame_of}
use Rattle.session.specs.Session.{World}
use Rattle.events.specs.Book.{noted, new_book}
use Rattle.events.specs.Book as book
use Rattle.events.specs.Event.{Event, none, start, stop, resume, dropped, landed, whole, touched, found, call_of, drop_seen, event_of}
use Rattle.auditing.specs.Line.{is_malformed, audit_of}
use Rattle.audited.specs.Sessions.{left_by}
use Rattle.audited.specs.Told.{accepted}

-- how many of these lines are such, each as the session and the book before it have it
unfoldable pub how_many : (World → List ℕ → List ℕ → Bool) → List ℕ → World → List ℕ → List (List ℕ) → ℕ
how_many such rom w b [] = 0
how_many such rom w b (line ∷ rest) = pick (such w b line) 1 0 + how_many such rom (audit_of rom w b line).world (audit_of rom w b line).book rest

-- a malformed line, and one that is a frame and refused
abbrev pub malformed_line : List ℕ → World → List ℕ → List ℕ → Bool
malformed_line rom w b line = is_malformed (frame_of line)

abbrev pub refused_line : List ℕ → World → List ℕ → List ℕ → Bool
refused_line rom w b line = not (is_malformed (frame_of line)) && not (accepted rom w line)

-- a line at which a capture starts, ends, or is dropped by a reset, as its call is seen
abbrev pub line_call : List ℕ → World → List ℕ → Call
line_call rom w line = call_of rom w.image (frame_of line)

abbrev pub start_line : List ℕ → World → List ℕ → List ℕ → Bool
start_line rom w b line = start_seen (found w) (line_call rom w line)

abbrev pub end_line : List ℕ → World → List ℕ → List ℕ → Bool
end_line rom w b line = end_seen (found w) (line_call rom w line)

abbrev pub drop_line : List ℕ → World → List ℕ → List ℕ → Bool
drop_line rom w b line = drop_seen (found w) (line_call rom w line)

-- a line whose event is an end that is whole, and one that was touched
unfoldable pub is_whole : Event → Bool
is_whole none = false
is_whole (start serial image row registers) = false
is_whole (stop serial cycles) = false
is_whole (resume serial cycles) = false
is_whole (dropped serial cycles) = false
is_whole (landed serial at byte) = false
is_whole (whole serial cycles plate) = true
is_whole (touched serial cycles plate writes first last) = false

abbrev pub whole_line : List ℕ → World → List ℕ → List ℕ → Bool
whole_line rom w b line = is_whole (event_of rom b w (frame_of line))

abbrev pub touched_line : List ℕ → World → List ℕ → List ℕ → Bool
touched_line rom w b line = end_line rom w b line && not (whole_line rom w b line)

-- what the book has counted after lines is how many of them are such; and the summary's counts add up: the captures started are those that ended,
-- that were dropped and that is held, and those that ended are whole or touched
pub record Summed (rom : List ℕ) (w : World) (lines : List (List ℕ)) : Type 0 where
  pub malformed : noted (left_by rom w lines).book book.malformed ≡ how_many (malformed_line rom) rom w new_book lines
  pub refused : noted (left_by rom w lines).book book.refused ≡ how_many (refused_line rom) rom w new_book lines
  pub captures : noted (left_by rom w lines).book book.captures ≡ how_many (start_line rom) rom w new_book lines
  pub ended : noted (left_by rom w lines).book book.ended ≡ how_many (end_line rom) rom w new_book lines
  pub whole : noted (left_by rom w lines).book book.whole ≡ how_many (whole_line rom) rom w new_book lines
  pub touched : noted (left_by rom w lines).book book.ended - noted (left_by rom w lines).book book.whole ≡ how_many (touched_line rom) rom w new_book lines
  pub dropped : noted (left_by rom w lines).book book.dropped ≡ how_many (drop_line rom) rom w new_book lines
  pub all : how_many (start_line rom) rom w new_book lines
      ≡ how_many (end_line rom) rom w new_book lines + how_many (drop_line rom) rom w new_book lines + pick (left_by rom w lines).world.state.held 1 0
  pub ends : how_many (end_line rom) rom w new_book lines ≡ how_many (whole_line rom) rom w new_book lines + how_many (touched_line rom) rom w new_book lines
