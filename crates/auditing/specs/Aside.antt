-- Aside: devices of contracts between functions. Nothing here need be believed: every use of it is tied by a proof to the definitions beside it.
-- What the functions promise of a line that is entered, and of one that is audited. Assumes nothing.
use Rattle.std.specs.Prelude.{◌≡◌, List, ℕ, ◌+◌, ◌≤◌, length}
use Rattle.lines.specs.Hex.{placed}
use Rattle.session.specs.Session.{World}
use Rattle.events.specs.Book.{noted, one_more, lines}
use Rattle.events.specs.Event.{Event}
use Rattle.events.specs.Entry.{event_text, event_counted}
use Rattle.auditing.specs.Line.{Audited}

-- a line, which is counted so, and its event are in the book, and its text in the buffer
pub record Entered (b counted : List ℕ) (e : Event) (out : List ℕ) (at : ℕ) (b' out' : List ℕ) (at' : ℕ) : Type 0 where
  pub book : b' ≡ event_counted counted e
  pub text : out' ≡ placed out at (event_text (one_more (noted b lines)) e)
  pub end : at' ≡ at + length (event_text (one_more (noted b lines)) e)
  pub few : at' ≤ at + 256

-- what a line leaves, with its text in a buffer
pub record Audits (a : Audited) (w : World) (out : List ℕ) (at : ℕ) (b' out' : List ℕ) (at' : ℕ) : Type 0 where
  pub world : w ≡ a.world
  pub book : b' ≡ a.book
  pub text : out' ≡ placed out at a.text
  pub end : at' ≡ at + length a.text
  pub few : at' ≤ at + 256
