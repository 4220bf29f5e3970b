-- A quarter by shifts: how large the top bits of a number are, and the shift that rounds down of a number moved up by them. Assumes nothing.
use mathlib.Core.Path.{◌≡◌, refl, sym, ap, subst, ◌∙◌}
use Prim.Native.Nat.{ℕ, zero, suc, ◌+◌, ◌-◌, ◌/◌, ◌<◌, ◌≤◌}
use native.Mathlib.Omega.{arith}
use native.Mathlib.Nat.{add-zero, le_trans}
use borrow.Author.Tests.{lt-ltb}
use lib.Dec.{T, leb, leb→le}
use lib.IntN.{ℤ, pos, negsuc, neg_ℤ, nat_abs, sub_ℕ, ◌+ℤ◌}
use lib.Signed.{mag, quot_z, shr_z}
use mir.Syntax.{w16}
use mir.Val.{to_z}
use Rattle.laws.specs.Pick.{pick}
use Rattle.laws.proofs.Signed.{E, bits, bound, ok, read, within, sub_ind}
use Rattle.filters.specs.Edge.{held}
use Rattle.filters.specs.Aside.{top_bits}

-- ---- the top bits

pub top_few : (v : ℤ) → mag v < 32768 → top_bits v ≤ 3
top_few (pos n) h = omega arith
top_few (negsuc n) h = omega arith

-- ---- the quarter

-- what lies beyond the range is held to its end
above : (n : ℕ) → 127 < n → held (pos n) ≡ pos 127
unfolding held
above n h = ap (λ t. pick t (pos 127) (pos n)) (lt-ltb 127 n h)

below : (n : ℕ) → 127 < n → held (negsuc n) ≡ negsuc 127
unfolding held
below n h = ap (λ t. pick t (negsuc 127) (negsuc n)) (lt-ltb 127 n h)

neg_below : (n : ℕ) → 128 < n → held (neg_ℤ (pos n)) ≡ negsuc 127
neg_below zero h = absurd (omega arith)
neg_below (suc n) h = below n (omega arith)

-- moved up by 3 below zero, the shift by two places cuts toward zero
cut : (n : ℕ) → shr_z (sub_ℕ 3 (suc n)) 4 ≡ neg_ℤ (pos (suc n / 4))
cut n =
    sub_ind 3 (suc n) (λ z. shr_z z 4 ≡ neg_ℤ (pos (suc n / 4)))
    (λ h. let e : suc n / 4 ≡ suc ((suc n - 4) / 4) = omega arith in ap (λ k. neg_ℤ (pos k)) (sym e))
    (λ h. let e : suc n / 4 ≡ 0 = omega arith in let d : (3 - suc n) / 4 ≡ 0 = omega arith in ap pos d ∙ ap (λ k. neg_ℤ (pos k)) (sym e))

-- moved up by its two top bits too, once it is held: where they are not 3 and 0 its quarter lies beyond the range
pub held_cut : (v : ℤ) → nat_abs v ≤ 20992 → held (shr_z (v +ℤ pos (top_bits v)) 4) ≡ held (quot_z v (pos 4))
held_cut (pos n) h = by (n / 16384) refl
  where
    by : (q : ℕ) → q ≡ n / 16384 → held (pos ((n + q) / 4)) ≡ held (pos (n / 4))
    by zero e = ap (λ k. held (pos (k / 4))) (add-zero n)
    by (suc q) e = above ((n + suc q) / 4) (omega arith) ∙ sym (above (n / 4) (omega arith))
held_cut (negsuc n) h = by (n / 16384) refl
  where
    by : (q : ℕ) → q ≡ n / 16384 → held (shr_z (sub_ℕ (3 - q) (suc n)) 4) ≡ held (neg_ℤ (pos (suc n / 4)))
    by zero e = ap held (cut n)
    by (suc q) e =
        sub_ind (3 - suc q) (suc n) (λ z. held (shr_z z 4) ≡ held (neg_ℤ (pos (suc n / 4))))
        (λ l. below ((suc n - suc (3 - suc q)) / 4) (omega arith) ∙ sym (neg_below (suc n / 4) (omega arith)))
        (λ l. absurd (omega arith))

-- what is read of an expression is of a size that its bound is within
pub sized : {k : ℕ} (e : E w16) → T (ok e) → T (leb (bound e) k) → nat_abs (to_z w16 (bits e)) ≤ k
sized {k} e t h = subst (λ z. nat_abs z ≤ k) (sym (read e t)) (le_trans (within e) (leb→le (bound e) k h))
