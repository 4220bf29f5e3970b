-- Bytes that are all 0: what their bits come to together. Assumes nothing.
use Rattle.std.proofs.Common.{◌≡◌, sym, ap, ◌∙◌, refl, ◌&&◌, List, ℕ, zero, suc, ◌+◌, ◌≤◌, length, get_or, take, bit_or, arith}
use Rattle.std.specs.Int.Bits.{or_zero_l, or_add_and, and_le_r}
use Rattle.std.specs.List.{fold}
use Rattle.std.proofs.lemmas.List.Sums.{fold_more}
use Rattle.std.proofs.lemmas.List.{take_all}
use lib.Dec.{eqb}
use borrow.Author.Tests.{ne_eqb}
use Rattle.timing.specs.Registers.{zero_to}

-- the bits of two together are 0 exactly where both are
none_of_both : (a b : ℕ) → eqb (bit_or a b) 0 ≡ (eqb a 0 && eqb b 0)
none_of_both zero b = ap (λ n. eqb n 0) (or_zero_l b)
none_of_both (suc a) b =
    ne_eqb (bit_or (suc a) b) 0 (λ q. omega (arith, or_add_and (suc a) b, and_le_r (suc a) b))
    ∙ sym (ap (λ t. t && eqb b 0) (ne_eqb (suc a) 0 (λ q. omega arith)))

-- and those of the first n
none_of : (regs : List ℕ) (n : ℕ) → n ≤ length regs → eqb (fold bit_or 0 (take n regs)) 0 ≡ zero_to regs n
unfolding zero_to
none_of regs zero h = refl
none_of regs (suc n) h =
    let e : suc n ≡ n + 1 = omega arith in
    ap (λ k. eqb (fold bit_or 0 (take k regs)) 0) e
    ∙ ap (λ b. eqb b 0) (fold_more bit_or 0 regs n 0 (omega arith))
    ∙ none_of_both (fold bit_or 0 (take n regs)) (get_or regs n 0)
    ∙ ap (λ t. t && eqb (get_or regs n 0) 0) (none_of regs n (omega arith))

pub none_of_all : (regs : List ℕ) (n : ℕ) → length regs ≡ n → eqb (fold bit_or 0 regs) 0 ≡ zero_to regs n
none_of_all regs n h = rw (take_all n regs (omega arith)) at (none_of regs n (omega arith))
