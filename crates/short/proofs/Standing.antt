-- Lines that are read where they stand: one that says a frame ends where an LF stands after it. Assumes nothing.
use mathlib.Core.Path.{◌≡◌, sym, ap, ◌∙◌}
use mathlib.Core.Bool.{Bool, true, false, false≢true}
use mathlib.Core.List.{List}
use Prim.Native.Nat.{ℕ, ◌+◌, ◌-◌, ◌<◌, ◌≤◌}
use native.Mathlib.Nat.{add-zero}
use native.Mathlib.Omega.{arith}
use lib.Dec.{eqb, ltb}
use Rattle.std.proofs.Common.{Some, None, cond, position, slice_range}
use Rattle.std.specs.List.{position_or_len}
use Rattle.std.proofs.lemmas.Option.{none-some}
use Rattle.std.proofs.lemmas.List.Quantifiers.{position-Some}
use Rattle.std.proofs.lemmas.List.Sums.{fails_before_first}
use lib.ListN.{length, get_or, take, drop, length-drop}
use lib.Seq.{get_or-drop, get_or-take, length-take-le}
use borrow.Author.Tests.{eq-eqb, eqb-true, ltb-false}
use Rattle.laws.proofs.Bools.{either, not_both, both_right}
use Rattle.laws.proofs.Order.{split}
use Rattle.lines.specs.Line.{is_hex, hex_part, frame_of}
use Rattle.lines.specs.Kinds.{is_malformed}
use Rattle.lines.proofs.Digits.{hex_within}
use Rattle.lines.proofs.Frames.{bad}
use Rattle.session.specs.Session.{World, step_of}
use Rattle.session.specs.Aside.{Printed}
use Rattle.short.specs.Aside.{Ends, Carries, stays, goes, Moves}

-- ---- where a line ends

-- one place further on
pub passed_one : (piece : List ℕ) (from i : ℕ) → ((k : ℕ) → from ≤ k → k < i → get_or piece k 0 ≡ 0x0A → ⊥) → (get_or piece i 0 ≡ 0x0A → ⊥)
    → (k : ℕ) → from ≤ k → k < i + 1 → get_or piece k 0 ≡ 0x0A → ⊥
passed_one piece from i before here k a b e =
    split k i (λ l. before k a l e) (λ l. let same : k ≡ i = omega arith in here (sym (ap (λ j. get_or piece j 0) same) ∙ e))

-- the bytes from a place on
at_place : (piece : List ℕ) (i k : ℕ) → k < length (slice_range piece i (length piece)) → get_or (slice_range piece i (length piece)) k 0 ≡ get_or piece (i + k) 0
at_place piece i k l = get_or-take (length piece - i) (drop i piece) k 0 (omega (arith, length-take-le (length piece - i) (drop i piece) (simp length-drop (omega arith)))) ∙ get_or-drop i piece k 0

rest_long : (piece : List ℕ) (i : ℕ) → length (slice_range piece i (length piece)) ≡ length piece - i
rest_long piece i = length-take-le (length piece - i) (drop i piece) (simp length-drop (omega arith))

-- no byte is LF before a place, nor so many from there on
module _ (piece : List ℕ) (from i : ℕ) (before : (j : ℕ) → from ≤ j → j < i → get_or piece j 0 ≡ 0x0A → ⊥) where
  none_to : (n : ℕ) → n ≤ length (slice_range piece i (length piece)) → ((k : ℕ) → k < n → eqb (get_or (slice_range piece i (length piece)) k 0) 0x0A ≡ false)
      → (j : ℕ) → from ≤ j → j < i + n → get_or piece j 0 ≡ 0x0A → ⊥
  none_to n m other j a l e =
      split j i (λ b. before j a b e)
      (λ b.
      let same : i + (j - i) ≡ j = omega arith in
      let lt : j - i < n = omega arith in
      let byte : get_or (slice_range piece i (length piece)) (j - i) 0 ≡ 0x0A = at_place piece i (j - i) (omega arith) ∙ ap (λ x. get_or piece x 0) same ∙ e in
      not_both (eq-eqb _ 0x0A byte) (other (j - i) lt))

  -- the first LF is so many bytes on, or there is none
  pub ends_found : (k : ℕ) → from ≤ i → i ≤ length piece → position (λ b. eqb b 0x0A) (slice_range piece i (length piece)) ≡ Some k → Ends piece from (i + k)
  ends_found k a m p =
      let h = position-Some (λ b. eqb b 0x0A) (slice_range piece i (length piece)) k 0 p in
      let l : k < length piece - i = omega (arith, rest_long piece i, h.0) in
      record {
        after = omega arith;
        inside = omega arith;
        none = none_to k (omega (arith, h.0)) h.2;
        found = λ _. sym (at_place piece i k h.0) ∙ eqb-true _ 0x0A h.1;
      }

  pub ends_none : from ≤ length piece → i ≤ length piece → position (λ b. eqb b 0x0A) (slice_range piece i (length piece)) ≡ None → Ends piece from (length piece)
  ends_none a m p =
      let rest = slice_range piece i (length piece) in
      let n = position_or_len (λ b. eqb b 0x0A) rest in
      either (ltb n (length rest))
      (λ t. absurd (none-some n (sym p ∙ ap (λ (x : Bool). cond x (Some n) None) t)))
      (λ f.
      let far : length rest ≤ n = ltb-false n (length rest) f in
      record {
        after = a;
        inside = omega arith;
        none = λ j b l e. none_to (length rest) (omega arith) (λ k h. fails_before_first (λ b. eqb b 0x0A) rest k 0 (omega arith)) j b (omega (arith, rest_long piece i)) e;
        found = λ h. absurd (omega arith);
      })

-- a digit is no LF
no_end_lem : (b : ℕ) → is_hex b ≡ true → eqb b 0x0A ≡ false
no_end_lem b h = either (eqb b 0x0A) (λ t. absurd (false≢true (sym (ap is_hex (eqb-true b 0x0A t)) ∙ h))) (λ f. f)

abbrev pub Endless : List ℕ → Type 0
Endless line = (i : ℕ) → i < length line → eqb (get_or line i 0) 0x0A ≡ false

pub endless : (line : List ℕ) → hex_part line 0 (length line) ≡ true → Endless line
unfolding hex_part
endless line h i l =
    let d = both_right true _ (hex_within line (length line) i 1 h (omega arith)) in
    no_end_lem (get_or line i 0) (ap (λ k. is_hex (get_or line k 0)) (sym (add-zero i)) ∙ d)

-- what says a frame is digits
said_hex : (line : List ℕ) → is_malformed (frame_of line) ≡ false → hex_part line 0 (length line) ≡ true
said_hex line h = either (hex_part line 0 (length line)) (λ t. t) (λ z. absurd (false≢true (sym h ∙ ap is_malformed (bad line z))))

-- and no digit is LF
pub ends_there : (piece : List ℕ) (from end : ℕ) → from ≤ end → end < length piece → get_or piece end 0 ≡ 0x0A
    → is_malformed (frame_of (take (end - from) (drop from piece))) ≡ false → Ends piece from end
ends_there piece from end a l e h = record {
  after = a;
  inside = omega arith;
  none = λ k b c f.
      let n : k - from < end - from = omega arith in
      let z : from + (k - from) ≡ k = omega arith in
      let byte : get_or (take (end - from) (drop from piece)) (k - from) 0 ≡ 0x0A =
      get_or-take (end - from) (drop from piece) (k - from) 0 n ∙ get_or-drop from piece (k - from) 0 ∙ ap (λ j. get_or piece j 0) z ∙ f in
      let long : length (take (end - from) (drop from piece)) ≡ end - from = length-take-le (end - from) (drop from piece) (simp length-drop (omega arith)) in
      absurd (false≢true (sym (endless _ (said_hex _ h) (k - from) (omega arith)) ∙ eq-eqb _ 0x0A byte));
  found = λ _. e;
}

-- ---- lines one after the other

-- lines, and others after those
carries_on : (rom piece : List ℕ) {w : World} {out : List ℕ} {at i : ℕ} {w' : World} {out' : List ℕ} {at' i' : ℕ} {w'' : World} {out'' : List ℕ} {at'' i'' : ℕ}
    → Carries rom piece w out at i w' out' at' i' → Carries rom piece w' out' at' i' w'' out'' at'' i'' → Carries rom piece w out at i w'' out'' at'' i''
carries_on rom piece stays n = n
carries_on rom piece (goes end e l r p k m) n = goes end e l r p k (carries_on rom piece m n)

module _ (rom piece : List ℕ) (w : World) (out : List ℕ) (at i : ℕ) where
  -- no line is carried out
  pub moves_none : i ≤ length piece → at ≤ length out → Moves rom piece w out at i w out at i
  moves_none h r = record { onward = omega arith; inside = h; room = r; lines = stays }

  -- a line is carried out and answered
  pub moves_line : (end : ℕ) → Ends piece i end → end < length piece → at + 11 ≤ length out → (w' : World) (out' : List ℕ) (at' : ℕ)
      → Printed (step_of rom w (take (end - i) (drop i piece))) w' out at out' at' → length out' ≡ length out → Moves rom piece w out at i w' out' at' (end + 1)
  moves_line end e l r w' out' at' p k = record {
    onward = omega (arith, e.after);
    inside = omega arith;
    room = omega (arith, p.most);
    lines = goes end e l r p k stays;
  }

  -- and lines after those
  pub moves_on : (w' : World) (out' : List ℕ) (at' i' : ℕ) → Moves rom piece w out at i w' out' at' i' → length out' ≡ length out
      → (w'' : World) (out'' : List ℕ) (at'' i'' : ℕ) → Moves rom piece w' out' at' i' w'' out'' at'' i'' → Moves rom piece w out at i w'' out'' at'' i''
  moves_on w' out' at' i' m k w'' out'' at'' i'' n = record {
    onward = omega (arith, m.onward, n.onward);
    inside = n.inside;
    room = omega (arith, n.room);
    lines = carries_on rom piece m.lines n.lines;
  }
