-- Laws of values stored in registers from one on. Assumes nothing.
use mathlib.Core.Path.{◌≡◌, refl, ◌∙◌}
use mathlib.Core.List.{List}
use Prim.Native.Nat.{ℕ, zero, suc, ◌+◌, ◌<◌, ◌≤◌}
use native.Mathlib.Numerals.{add-one}
use native.Mathlib.Omega.{arith}
use lib.ListN.{length, get_or, set, length-set}
use lib.Seq.{get_or-set_same, get_or-set_other}
use Rattle.laws.proofs.Order.{split}
use Rattle.desk.specs.Choice.{stored}

pub stored_none : (regs : List ℕ) (from : ℕ) (f : ℕ → ℕ) → regs ≡ stored regs from f 0
unfolding stored
stored_none regs from f = refl

-- one more
pub stored_more : (regs out : List ℕ) (from : ℕ) (f : ℕ → ℕ) (n v : ℕ) → out ≡ stored regs from f n → v ≡ f n → set out (from + n) v ≡ stored regs from f (n + 1)
unfolding stored
stored_more regs out from f n v e q = rw (e, q) (simp add-one)

pub stored_length : (regs : List ℕ) (from : ℕ) (f : ℕ → ℕ) (n : ℕ) → length (stored regs from f n) ≡ length regs
unfolding stored
stored_length regs from f zero = refl
stored_length regs from f (suc n) = length-set (stored regs from f n) (from + n) (f n) ∙ stored_length regs from f n

-- registers before them stay
pub stored_before : (regs : List ℕ) (from : ℕ) (f : ℕ → ℕ) (n i : ℕ) → i < from → get_or (stored regs from f n) i 0 ≡ get_or regs i 0
unfolding stored
stored_before regs from f zero i h = refl
stored_before regs from f (suc n) i h = get_or-set_other (stored regs from f n) (from + n) i (f n) 0 (λ z. omega arith) ∙ stored_before regs from f n i h

-- each holds its value
pub stored_at : (regs : List ℕ) (from : ℕ) (f : ℕ → ℕ) (n k : ℕ) → from + n ≤ length regs → k < n → get_or (stored regs from f n) (from + k) 0 ≡ f k
unfolding stored
stored_at regs from f zero k l h = absurd (omega arith)
stored_at regs from f (suc n) k l h =
    split k n
    (λ before. get_or-set_other (stored regs from f n) (from + n) (from + k) (f n) 0 (λ z. omega arith) ∙ stored_at regs from f n k (omega arith) before)
    (λ after.
    let here : k ≡ n = omega arith in
    rw here (get_or-set_same (stored regs from f n) (from + n) (f n) 0 (omega (arith, stored_length regs from f n))))
