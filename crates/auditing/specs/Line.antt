-- One line of a recording: the session goes on, the book counts, and its event is printed. Assumes nothing.
use Rattle.std.specs.Prelude.{Bool, true, false, not, List, [], ◌∷◌, ◌++◌, ℕ, eqb, set}
use Rattle.laws.specs.Pick.{pick}
use Rattle.lines.specs.declared.line.Frame.{Frame}
use Rattle.lines.specs.declared.line.Frame.TheVariants.{Reset, Read, Write, Tick, Row, Malformed}
use Rattle.lines.specs.Line.{frame_of}
use Rattle.session.specs.Answer.{number_said}
use Rattle.session.specs.Session.{World, step_of}
use Rattle.events.specs.Book.{noted, more, one_more, lines, row}
use Rattle.events.specs.Book as book
use Rattle.events.specs.Event.{event_of}
use Rattle.events.specs.Entry.{event_text, event_counted}

-- whether a frame is malformed
unfoldable pub is_malformed : Frame → Bool
is_malformed Reset = false
is_malformed (Read a) = false
is_malformed (Write a v) = false
is_malformed (Tick n) = false
is_malformed (Row y) = false
is_malformed Malformed = true

-- whether it is an image row
unfoldable pub is_row : Frame → Bool
is_row Reset = false
is_row (Read a) = false
is_row (Write a v) = false
is_row (Tick n) = false
is_row (Row y) = true
is_row Malformed = false

-- a line is counted: a row that is lent is the last one, a line that is malformed or that is refused is counted as that
unfoldable pub line_counted : List ℕ → Frame → ℕ → List ℕ
line_counted b f number =
    pick (is_malformed f) (more (more b lines) book.malformed)
    (pick (not (eqb number 0)) (more (more b lines) book.refused)
    (pick (is_row f) (set (more b lines) row (noted (more b lines) lines)) (more b lines)))

-- what a line leaves: the session, the book, and the text of its event
pub record Audited : Type 0 where
  pub world : World
  pub book : List ℕ
  pub text : List ℕ

unfoldable pub audit_of : List ℕ → World → List ℕ → List ℕ → Audited
audit_of rom w b line = record {
  world = (step_of rom w line).world;
  book = event_counted (line_counted b (frame_of line) (number_said (step_of rom w line).text)) (event_of rom b w (frame_of line));
  text = event_text (one_more (noted b lines)) (event_of rom b w (frame_of line));
}

-- lines one after the other
unfoldable pub audit_all : List ℕ → World → List ℕ → List (List ℕ) → Audited
audit_all rom w b [] = record { world = w; book = b; text = [] }
audit_all rom w b (line ∷ rest) =
    let here = audit_of rom w b line in
    let then = audit_all rom here.world here.book rest in
    record { world = then.world; book = then.book; text = here.text ++ then.text }
