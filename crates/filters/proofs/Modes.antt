-- The filters by the bits of their modes are those of the table. Assumes nothing.
use mathlib.Core.Bool.{Bool, true, false, ◌||◌}
use mathlib.Core.List.{List}
use mathlib.Core.Path.{◌≡◌, refl, ap, ◌∙◌}
use Prim.Native.Nat.{ℕ, ◌+◌, ◌*◌, ◌≤◌}
use borrow.Author.Tests.{eqb-true}
use lib.Dec.{eqb}
use native.Mathlib.Nat.{mul-le-mul}
use native.Mathlib.Omega.{arith}
use lib.IntN.{ℤ, pos, ◌+ℤ◌, ◌-ℤ◌, ◌*ℤ◌}
use lib.Signed.{quot_z}
use Rattle.std.proofs.lemmas.Int.{ints}
use Rattle.filters.specs.Edge.{held, nine, across_of, upright_of, around_of, enhanced, extracted, mode2, mode3, mode_c, mode_d, mode_e, mode_f, edge_of}
use Rattle.filters.specs.Aside.{has_filter, count_of, beside_of, own_of}
use Rattle.filters.proofs.Weights.{weighed_more}

module _ (n : List (List ℤ)) where
  across : pos 2 *ℤ nine n 1 1 -ℤ (pos 1 *ℤ (nine n 1 0 +ℤ nine n 1 2) +ℤ pos 0 *ℤ (nine n 0 1 +ℤ nine n 2 1)) ≡ across_of n
  across = omega (arith, ints)

  upright : pos 2 *ℤ nine n 1 1 -ℤ (pos 0 *ℤ (nine n 1 0 +ℤ nine n 1 2) +ℤ pos 1 *ℤ (nine n 0 1 +ℤ nine n 2 1)) ≡ upright_of n
  upright = omega (arith, ints)

  around : pos 4 *ℤ nine n 1 1 -ℤ (pos 1 *ℤ (nine n 1 0 +ℤ nine n 1 2) +ℤ pos 1 *ℤ (nine n 0 1 +ℤ nine n 2 1)) ≡ around_of n
  around = omega (arith, ints)

-- what holds of the six modes holds of each that has a filter
one : {X : Type 0} (a b : Bool) → a || b ≡ true → (a ≡ true → X) → (b ≡ true → X) → X
one true b h f g = f refl
one false b h f g = g h

each : (P : ℕ → Type 0) (mode : ℕ) → has_filter mode ≡ true → P 0x2 → P 0x3 → P 0xC → P 0xD → P 0xE → P 0xF → P mode
each P mode h p₂ p₃ pc pd pe pf =
    let at : (k : ℕ) → P k → eqb mode k ≡ true → P mode = λ k p t. rw (eqb-true mode k t) p in
    one _ _ h (λ t. one _ _ t (λ t. one _ _ t (λ t. one _ _ t (λ t. one _ _ t (at 0x2 p₂) (at 0x3 p₃)) (at 0xC pc)) (at 0xD pd)) (at 0xE pe)) (at 0xF pf)

-- P weighed once, less the neighbours that the mode's bits ask for, is the mode's sum
module _ (n : List (List ℤ)) (q : ℕ) where
  abbrev pub weighed_by : ℕ → ℤ
  weighed_by mode = pos (own_of mode + count_of mode * q) *ℤ nine n 1 1 -ℤ pos q *ℤ beside_of mode n

  apart : (mode : ℕ) → weighed_by mode ≡ pos (own_of mode) *ℤ nine n 1 1 +ℤ pos q *ℤ (pos (count_of mode) *ℤ nine n 1 1 -ℤ beside_of mode n)
  apart mode = weighed_more (nine n 1 1) (count_of mode) (beside_of mode n) (own_of mode) q

  module _ (mode : ℕ) (d : ℤ) (e : pos (count_of mode) *ℤ nine n 1 1 -ℤ beside_of mode n ≡ d) where
    added : own_of mode ≡ 4 → held (quot_z (weighed_by mode) (pos 4)) ≡ held (enhanced q n d)
    added o = ap (λ z. held (quot_z z (pos 4))) (apart mode ∙ (λ i. pos (o i) *ℤ nine n 1 1 +ℤ pos q *ℤ e i))

    left_out : own_of mode ≡ 0 → held (quot_z (weighed_by mode) (pos 4)) ≡ held (extracted q d)
    left_out o =
        let none : pos 0 *ℤ nine n 1 1 +ℤ pos q *ℤ d ≡ pos q *ℤ d = omega (arith, ints) in
        ap (λ z. held (quot_z z (pos 4))) (apart mode ∙ (λ i. pos (o i) *ℤ nine n 1 1 +ℤ pos q *ℤ e i) ∙ none)

  pub by_bits : (mode : ℕ) → has_filter mode ≡ true → held (quot_z (weighed_by mode) (pos 4)) ≡ edge_of mode q n
  unfolding edge_of mode2 mode3 mode_c mode_d mode_e mode_f
  by_bits mode h =
      each (λ m. held (quot_z (weighed_by m) (pos 4)) ≡ edge_of m q n) mode h
      (added 0x2 _ (across n) refl) (left_out 0x3 _ (across n) refl)
      (added 0xC _ (upright n) refl) (left_out 0xD _ (upright n) refl)
      (added 0xE _ (around n) refl) (left_out 0xF _ (around n) refl)

-- so weighed P is small
pub weight_small : (mode : ℕ) {q : ℕ} → q ≤ 20 → own_of mode + count_of mode * q ≤ 84
weight_small mode {q} h =
    let few : count_of mode ≤ 4 = omega arith in
    let most : count_of mode * q ≤ 80 = mul-le-mul few h in
    omega (arith, most)
