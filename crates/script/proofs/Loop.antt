-- Feeding a text in pieces cut anywhere, into buffers of 11 bytes and more, is the whole text's session. Assumes nothing.
use mathlib.Core.Path.{◌≡◌, refl, sym, ap, ◌∙◌}
use mathlib.Core.List.{List, [], ◌∷◌, ◌++◌, append_assoc}
use Prim.Native.Nat.{ℕ, zero, suc, ◌-◌, ◌<◌, ◌≤◌}
use native.Mathlib.Nat.{zero-add}
use native.Mathlib.Omega.{arith}
use lib.ListN.{length, take, drop, length-drop, take-append-drop}
use Rattle.lines.specs.Hex.{placed}
use Rattle.lines.proofs.Placed.{take_placed}
use Rattle.script.specs.declared.text.Reader.{Reader}
use Rattle.session.specs.Session.{World, Step, step}
use Rattle.script.specs.Text.{after, session_of}
use Rattle.script.specs.Pieces.{Reading, read_all, fed, opened, feed_means, reader_of, in_pieces, joined}
use Rattle.script.specs.Loop.{Playing, playing_from, call, called, piece_read, looped}
use Rattle.script.proofs.Whole.{closing, fed_is, fed_moves, pieces_read, whole}

-- a feed with room moves on: of the bytes it is lent it reads at least one
pub moves_on : (rom : List ℕ) (w : World) (r : Reader) (piece out : List ℕ) → 0 < length piece → 11 ≤ length out → 0 < (feed_means rom w r piece out).used
unfolding feed_means
moves_on rom w r [] out l h = absurd (omega arith)
moves_on rom w r (b ∷ rest) out l h = fed_moves rom (length out) w r b rest h

-- pieces may be cut elsewhere
recut : (rom : List ℕ) (w : World) (r : Reader) (ps qs : List (List ℕ)) → joined ps ≡ joined qs → in_pieces rom w r ps ≡ in_pieces rom w r qs
recut rom w r ps qs e = pieces_read rom w r ps ∙ ap (λ t. closing rom (read_all rom (opened w r) t)) e ∙ sym (pieces_read rom w r qs)

after_after : (s t : List ℕ) (x : Step) → after (s ++ t) x ≡ after s (after t x)
after_after s t x = ap (step x.world) (append_assoc s t x.text)

-- what a call has written is what it printed
written : (out t : List ℕ) → take (length t) (placed out 0 t) ≡ t
written out t = ap (λ n. take n (placed out 0 t)) (sym (zero-add (length t))) ∙ take_placed out 0 t (omega arith)

-- what is printed from here on, if the pieces were read at one go
onward : List ℕ → Playing → List (List ℕ) → Step
onward rom p pieces = after p.text (in_pieces rom p.world p.reader pieces)

cut : (rom : List ℕ) (w : World) (r : Reader) (front : List ℕ) (pieces : List (List ℕ))
    → after (read_all rom (opened w r) front).text (in_pieces rom (read_all rom (opened w r) front).world (reader_of (read_all rom (opened w r) front).line) pieces) ≡ in_pieces rom w r (front ∷ pieces)
unfolding in_pieces
cut rom w r front pieces = refl

-- a call reads the front of a piece, and the rest of it is a piece too
module _ (rom : List ℕ) (w : World) (r : Reader) (size : ℕ) (piece : List ℕ) (pieces : List (List ℕ)) where
  here : Reading
  here = fed rom size (opened w r) piece

  front : here ≡ read_all rom (opened w r) (take here.used piece)
  unfolding here opened
  front = let e : here.used - 0 ≡ here.used = omega arith in fed_is rom size (opened w r) piece ∙ ap (λ n. read_all rom (opened w r) (take n piece)) e

  rest_read : after here.text (in_pieces rom here.world (reader_of here.line) (drop here.used piece ∷ pieces)) ≡ in_pieces rom w r (piece ∷ pieces)
  rest_read =
      ap (λ m. after m.text (in_pieces rom m.world (reader_of m.line) (drop here.used piece ∷ pieces))) front
      ∙ cut rom w r (take here.used piece) (drop here.used piece ∷ pieces)
      ∙ recut rom w r (take here.used piece ∷ drop here.used piece ∷ pieces) (piece ∷ pieces)
      (sym (append_assoc (take here.used piece) (drop here.used piece) (joined pieces)) ∙ ap (λ t. t ++ joined pieces) (take-append-drop here.used piece))

-- one call
one_call : (rom : List ℕ) (outs : ℕ → List ℕ) (p : Playing) (piece : List ℕ) (pieces : List (List ℕ))
    → onward rom (called p (call rom outs p piece)) (drop (call rom outs p piece).used piece ∷ pieces) ≡ onward rom p (piece ∷ pieces)
unfolding onward feed_means here
one_call rom outs p piece pieces =
    let m = here rom p.world p.reader (length (outs p.calls)) piece pieces in
    ap (λ t. after (p.text ++ t) (in_pieces rom m.world (reader_of m.line) (drop m.used piece ∷ pieces))) (written (outs p.calls) m.text)
    ∙ after_after p.text m.text (in_pieces rom m.world (reader_of m.line) (drop m.used piece ∷ pieces))
    ∙ ap (after p.text) (rest_read rom p.world p.reader (length (outs p.calls)) piece pieces)

module _ (rom : List ℕ) (outs : ℕ → List ℕ) (room : (k : ℕ) → 11 ≤ length (outs k)) where
  -- all calls of a piece
  piece_read_lem : (most : ℕ) (p : Playing) (piece : List ℕ) (pieces : List (List ℕ)) → length piece ≤ most
      → onward rom (piece_read most rom outs p piece) pieces ≡ onward rom p (piece ∷ pieces)
  unfolding piece_read onward
  piece_read_lem zero p [] pieces h = ap (after p.text) (recut rom p.world p.reader pieces ([] ∷ pieces) refl)
  piece_read_lem zero p (b ∷ rest) pieces h = absurd (omega arith)
  piece_read_lem (suc most) p [] pieces h = ap (after p.text) (recut rom p.world p.reader pieces ([] ∷ pieces) refl)
  piece_read_lem (suc most) p (b ∷ rest) pieces h =
      let used = (call rom outs p (b ∷ rest)).used in
      let on = moves_on rom p.world p.reader (b ∷ rest) (outs p.calls) (omega arith) (room p.calls) in
      piece_read_lem most (called p (call rom outs p (b ∷ rest))) (drop used (b ∷ rest)) pieces (omega (arith, length-drop used (b ∷ rest)))
      ∙ one_call rom outs p (b ∷ rest) pieces

  all_read : (p : Playing) (pieces : List (List ℕ)) → looped rom outs p pieces ≡ onward rom p pieces
  unfolding looped onward in_pieces
  all_read p [] = refl
  all_read p (piece ∷ pieces) = all_read (piece_read (length piece) rom outs p piece) pieces ∙ piece_read_lem (length piece) p piece pieces (omega arith)

  -- feeding a text in pieces, cut anywhere, into buffers of 11 bytes and more, gives the whole text's session
  pub loop : (w : World) (pieces : List (List ℕ)) → looped rom outs (playing_from w) pieces ≡ session_of rom w (joined pieces)
  unfolding onward
  loop w pieces = all_read (playing_from w) pieces ∙ whole rom w pieces
