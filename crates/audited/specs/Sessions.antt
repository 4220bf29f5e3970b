-- A recording as a history: the calls of its lines. Assumes nothing.
use Rattle.std.specs.Prelude.{◌≡◌, List, [], ◌∷◌, ℕ}
use Rattle.controller.specs.State.{reset_state}
use Rattle.history.specs.History.{Call, after}
use Rattle.lines.specs.Line.{frame_of}
use Rattle.session.specs.Session.{World, world, step_of}
use Rattle.script.specs.Text.{played}
use Rattle.events.specs.Book.{new_book}
use Rattle.events.specs.Event.{Event, found, call_of, event_of}
use Rattle.auditing.specs.Line.{Audited, audit_all}

-- the calls of lines, each with the image that the session has when it comes
unfoldable pub calls_of : List ℕ → World → List (List ℕ) → List Call
calls_of rom w [] = []
calls_of rom w (line ∷ rest) = call_of rom w.image (frame_of line) ∷ calls_of rom (step_of rom w line).world rest

-- an audit plays lines as a script does, and what a call finds of the session then is what the calls of the lines leave
pub record Played (rom : List ℕ) (w : World) (book : List ℕ) (lines : List (List ℕ)) : Type 0 where
  pub same : (audit_all rom w book lines).world ≡ (played rom w lines).world
  pub history : found (audit_all rom w book lines).world ≡ after (found w) (calls_of rom w lines)

-- a session at reset
abbrev pub at_reset : List ℕ → List ℕ → List ℕ → World
at_reset ram store image = world reset_state ram store image

-- what lines leave of a session and of a new book
abbrev pub left_by : List ℕ → World → List (List ℕ) → Audited
left_by rom w lines = audit_all rom w new_book lines

-- the event of the line after them
abbrev pub next_event : List ℕ → World → List (List ℕ) → List ℕ → Event
next_event rom w lines line = event_of rom (left_by rom w lines).book (left_by rom w lines).world (frame_of line)
