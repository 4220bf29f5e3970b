-- A recording that is audited in pieces, as a program reads it. Assumes nothing.
use Rattle.std.specs.Prelude.{◌≡◌, List, [], ◌∷◌, ◌++◌, ℕ, zero, suc, ◌+◌, ◌≤◌, length, take, drop}
use Rattle.session.specs.Session.{World}
use Rattle.script.specs.Text.{lines_of}
use Rattle.script.specs.Pieces.{joined}
use Rattle.events.specs.Book.{noted, new_book, written}
use Rattle.pieces.specs.Pieces.{Standing, piece_audited, end_audited, held_said}
use Rattle.audited.specs.Sessions.{left_by}

-- where a program stands: the session, the book, the buffer of a line that has begun, what it has printed, and how many calls it has made
pub record Auditing : Type 0 where
  pub world : World
  pub book : List ℕ
  pub line : List ℕ
  pub text : List ℕ
  pub calls : ℕ

-- with a new book, and any buffer for lines
abbrev pub auditing_from : World → List ℕ → Auditing
auditing_from w line = record { world = w; book = new_book; line = line; text = []; calls = 0 }

-- after a call what it has written into its buffer is printed
abbrev pub called : Auditing → Standing → Auditing
called p s = record {
  world = s.world;
  book = s.book;
  line = s.line;
  text = p.text ++ take (noted s.book written) s.out;
  calls = p.calls + 1;
}

-- a call with the buffer that is lent to it; any may be lent to each
abbrev pub call : List ℕ → (ℕ → List ℕ) → Auditing → List ℕ → Standing
call rom outs p piece = piece_audited rom p.world p.book p.line (outs p.calls) piece

-- what a call has left of a piece is lent to the next one, until nothing is left: a piece takes at most as many calls as it has bytes
unfoldable pub piece_read : ℕ → List ℕ → (ℕ → List ℕ) → Auditing → List ℕ → Auditing
piece_read zero rom outs p piece = p
piece_read (suc most) rom outs p [] = p
piece_read (suc most) rom outs p (b ∷ rest) = piece_read most rom outs (called p (call rom outs p (b ∷ rest)))
    (drop (call rom outs p (b ∷ rest)).used (b ∷ rest))

-- piece after piece, and then the end of the recording
unfoldable pub looped : List ℕ → (ℕ → List ℕ) → Auditing → List (List ℕ) → Auditing
looped rom outs p [] = called p (end_audited rom p.world p.book p.line (outs p.calls))
looped rom outs p (piece ∷ pieces) = looped rom outs (piece_read (length piece) rom outs p piece) pieces

-- what a program comes to: it has printed the events of all lines, one after the other, and what is said of a capture that is held then; it has
-- the session that the lines leave; and each count of its book is theirs
pub record InPieces (rom : List ℕ) (w : World) (pieces : List (List ℕ)) (end : Auditing) : Type 0 where
  pub text : end.text ≡ (left_by rom w (lines_of (joined pieces))).text ++ held_said (left_by rom w (lines_of (joined pieces)))
  pub world : end.world ≡ (left_by rom w (lines_of (joined pieces))).world
  pub book : (k : ℕ) → 2 ≤ k → noted end.book k ≡ noted (left_by rom w (lines_of (joined pieces))).book k
