-- Greys as bits: those of eight columns are a byte. Assumes nothing.
use mathlib.Core.Path.{◌≡◌, refl, ap, ◌∙◌}
use mathlib.Core.Bool.{Bool, true, false, not, ◌&&◌}
use mathlib.Core.List.{List, [], ◌∷◌}
use Prim.Native.Nat.{ℕ, zero, suc, ◌+◌, ◌*◌, ◌/◌, ◌%◌, ◌<◌, ◌≤◌}
use native.Mathlib.Omega.{arith}
use lib.Bits.{bit_and}
use lib.Dec.{T, eqb, eqb→eq, lit<}
use lib.ListN.{get_or}
use mir.Facts.{and_yes}
use Rattle.laws.specs.Lists.{listed}
use Rattle.laws.specs.Pick.{pick}
use Rattle.laws.proofs.Packed.{listed_at}
use Rattle.laws.proofs.Pick.{pick_ind}
use Rattle.laws.proofs.Table.{at}
use Rattle.strips.specs.Aside.{column_of}
use Rattle.strips.proofs.Columns.{column, all}
use Rattle.placing.specs.Placing.{is_grey, only_greys, shade_of}
use Rattle.placing.specs.Aside.{lows_at, highs_at, unset, unset_bits}
use Rattle.placing.proofs.Each.{each_at}

-- ---- one grey, by one test of all bytes

none : ℕ → List ℕ
none zero = []
none (suc n) = 0 ∷ none n

alike : (a b : Bool) → T (pick a b (not b)) → a ≡ b
alike true true t = refl
alike true false t = absurd t
alike false true t = absurd t
alike false false t = refl

-- each two of its bits are as the two above
pub grey_test : (v : ℕ) → v < 256 → eqb (v / 4) (v % 64) ≡ is_grey v
unfolding is_grey none
grey_test v h =
    alike (eqb (v / 4) (v % 64)) (is_grey v)
    (at (λ k x. pick (eqb (k / 4) (k % 64)) (is_grey k) (not (is_grey k))) (none 256) tt v h)

-- the bits of its shade are those that it has not
grey_bits : (v : ℕ) → v < 256 → is_grey v ≡ true → (unset 1 v ≡ shade_of v % 2) × (unset 2 v ≡ shade_of v / 2)
unfolding is_grey shade_of none
grey_bits v h g =
    let t = at (λ k x. pick (is_grey k) (eqb (unset 1 k) (shade_of k % 2) && eqb (unset 2 k) (shade_of k / 2)) true) (none 256) tt v h in
    let p = and_yes (eqb (unset 1 v) (shade_of v % 2)) (eqb (unset 2 v) (shade_of v / 2)) (rw g at t) in
    (eqb→eq (unset 1 v) (shade_of v % 2) p.0, eqb→eq (unset 2 v) (shade_of v / 2) p.1)

-- ---- a row that is turned

-- what it has not is a bit
pub unset_two : (bit : ℕ) (line : List ℕ) (p : ℕ) → unset bit (get_or line p 0) < 2
unset_two bit line p = pick_ind (λ n. n < 2) (eqb (bit_and (get_or line p 0) bit) 0) (λ _. lit< tt) (λ _. lit< tt)

-- all eight are the bytes of a row of greys
module _ (pixels : List ℕ) (bytes : (k : ℕ) → get_or pixels k 0 < 256) (greys : only_greys pixels ≡ true) (at : ℕ) (inside : at + 128 ≤ 14336)
    {row line : List ℕ} (copied : row ≡ listed (λ x. get_or pixels (at + x) 0) 128) (made : line ≡ listed (λ p. get_or row (column_of p) 0) 128) where
  grey : (t k : ℕ) → t < 16 → k < 8 → get_or line (16 * k + t) 0 ≡ get_or pixels (at + 8 * t + k) 0
  grey t k h l =
      let turned : get_or line (16 * k + t) 0 ≡ get_or row (column_of (16 * k + t)) 0 = rw made (listed_at (λ p. get_or row (column_of p) 0) 128 (16 * k + t) (omega arith)) in
      let taken : get_or row (8 * t + k) 0 ≡ get_or pixels (at + (8 * t + k)) 0 = rw copied (listed_at (λ x. get_or pixels (at + x) 0) 128 (8 * t + k) (omega arith)) in
      turned ∙ ap (λ (x : ℕ). get_or row x 0) (column t k h) ∙ taken ∙ ap (λ (n : ℕ). get_or pixels n 0) (omega arith)

  bits : (t k : ℕ) → t < 16 → k < 8 → (unset 1 (get_or line (16 * k + t) 0) ≡ shade_of (get_or pixels (at + 8 * t + k) 0) % 2) × (unset 2 (get_or line (16 * k + t) 0) ≡ shade_of (get_or pixels (at + 8 * t + k) 0) / 2)
  unfolding only_greys
  bits t k h l =
      rw (grey t k h l) (grey_bits _ (bytes (at + 8 * t + k)) (each_at (λ k. is_grey (get_or pixels k 0)) 14336 greys (at + 8 * t + k) (omega arith)))

  pub low_all : {b : ℕ} {bytes : List ℕ} → b ≡ 8 → bytes ≡ listed (unset_bits 1 line b) 16 → bytes ≡ listed (λ t. lows_at pixels (at + 8 * t)) 16
  unfolding lows_at
  low_all =
      all (λ p. unset 1 (get_or line p 0)) (λ t k. shade_of (get_or pixels (at + 8 * t + k) 0) % 2) (λ t k h l. (bits t k h l).0)

  pub high_all : {b : ℕ} {bytes : List ℕ} → b ≡ 8 → bytes ≡ listed (unset_bits 2 line b) 16 → bytes ≡ listed (λ t. highs_at pixels (at + 8 * t)) 16
  unfolding highs_at
  high_all =
      all (λ p. unset 2 (get_or line p 0)) (λ t k. shade_of (get_or pixels (at + 8 * t + k) 0) / 2) (λ t k h l. (bits t k h l).1)
