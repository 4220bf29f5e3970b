-- Laws of the first reversed element. Assumes nothing.
use mathlib.Core.Path.{◌≡◌, refl, ◌∙◌}
use mathlib.Core.Bool.{true, false}
use mathlib.Core.List.{List}
use Prim.Native.Nat.{ℕ, suc, ◌+◌, ◌-◌, ◌*◌, ◌/◌, ◌%◌, ◌<◌}
use native.Mathlib.Omega.{arith}
use lib.Dec.{ltb}
use lib.ListN.{get_or}
use Rattle.matrix.specs.Matrix.{reversed, first_in}

-- L > M, or else M > H
module _ (regs : List ℕ) (row column : ℕ) where
  pub reversed_left : ltb (get_or regs (6 + 3 * (4 * row + column) + 1) 0) (get_or regs (6 + 3 * (4 * row + column)) 0) ≡ true → reversed regs row column ≡ true
  unfolding reversed
  reversed_left h = simp h

  pub reversed_right : ltb (get_or regs (6 + 3 * (4 * row + column) + 1) 0) (get_or regs (6 + 3 * (4 * row + column)) 0) ≡ false → reversed regs row column ≡ ltb (get_or regs (6 + 3 * (4 * row + column) + 2) 0) (get_or regs (6 + 3 * (4 * row + column) + 1) 0)
  unfolding reversed
  reversed_right h = simp h

module _ (regs : List ℕ) (row column : ℕ) (r : row < 4) (k : column < 4) where
  -- the element of a row and column, by its number
  place : reversed regs ((4 * row + column) / 4) ((4 * row + column) % 4) ≡ reversed regs row column
  place =
      let q : (4 * row + column) / 4 ≡ row = omega arith in
      let m : (4 * row + column) % 4 ≡ column = omega arith in
      rw (q, m)

  left : 16 - (4 * row + column) ≡ suc (16 - (4 * row + column + 1))
  left = omega arith

  pub first_skip : reversed regs row column ≡ false → first_in regs (4 * row + column) (16 - (4 * row + column)) ≡ first_in regs (4 * row + (column + 1)) (16 - (4 * row + (column + 1)))
  unfolding first_in
  first_skip h =
      let e : suc (4 * row + column) ≡ 4 * row + (column + 1) = omega arith in
      let f : 16 - (4 * row + column + 1) ≡ 16 - (4 * row + (column + 1)) = omega arith in
      rw left (simp (place ∙ h) (rw (e, f)))

  pub first_hit : reversed regs row column ≡ true → first_in regs (4 * row + column) (16 - (4 * row + column)) ≡ 4 * row + column
  unfolding first_in
  first_hit h = rw left (simp (place ∙ h))

pub first_none : (regs : List ℕ) → first_in regs 16 0 ≡ 16
unfolding first_in
first_none regs = refl
