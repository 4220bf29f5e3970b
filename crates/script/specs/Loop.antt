-- A text that is read in pieces with buffers for its answers, as a program reads it. Assumes nothing.
use Rattle.std.specs.Prelude.{List, [], ◌∷◌, ◌++◌, ℕ, zero, suc, ◌+◌, length, take, drop}
use Rattle.script.specs.declared.text.Reader.{Reader}
use Rattle.session.specs.Session.{World, Step}
use Rattle.script.specs.Text.{after}
use Rattle.script.specs.Pieces.{Feeding, new_reader, feed_means, finish_means}

-- where a program stands: the world, the reader, what it has printed, and how many calls it has made
pub record Playing : Type 0 where
  pub world : World
  pub reader : Reader
  pub text : List ℕ
  pub calls : ℕ

abbrev pub playing_from : World → Playing
playing_from w = record { world = w; reader = new_reader; text = []; calls = 0 }

-- a call with the buffer that is lent to it; any may be lent to each
abbrev pub call : List ℕ → (ℕ → List ℕ) → Playing → List ℕ → Feeding
call rom outs p piece = feed_means rom p.world p.reader piece (outs p.calls)

-- after a call what it has written into the buffer is printed
abbrev pub called : Playing → Feeding → Playing
called p f = record { world = f.world; reader = f.reader; text = p.text ++ take f.written f.out; calls = p.calls + 1 }

-- what a call has left of a piece is lent to the next one, until nothing is left: a piece takes at most as many calls as it has bytes
unfoldable pub piece_read : ℕ → List ℕ → (ℕ → List ℕ) → Playing → List ℕ → Playing
piece_read zero rom outs p piece = p
piece_read (suc most) rom outs p [] = p
piece_read (suc most) rom outs p (b ∷ rest) = piece_read most rom outs (called p (call rom outs p (b ∷ rest)))
    (drop (call rom outs p (b ∷ rest)).used (b ∷ rest))

-- piece after piece, and then the end of the text
unfoldable pub looped : List ℕ → (ℕ → List ℕ) → Playing → List (List ℕ) → Step
looped rom outs p [] = after p.text (finish_means rom p.world p.reader)
looped rom outs p (piece ∷ pieces) = looped rom outs (piece_read (length piece) rom outs p piece) pieces
