-- A row compared, byte by byte. Assumes nothing.
use mathlib.Core.Path.{◌≡◌, sym}
use mathlib.Core.Bool.{Bool, true, false}
use mathlib.Core.List.{List}
use Prim.Native.Nat.{ℕ, ◌+◌, ◌*◌, ◌/◌, ◌%◌, ◌<◌}
use native.Mathlib.Omega.{arith}
use lib.Dec.{eqb}
use lib.ListN.{get_or}
use borrow.Author.Tests.{eq-eqb, ne_eqb}
use Rattle.placing.specs.Placing.{each}
use Rattle.placing.proofs.Each.{each_more, each_fails}
use Rattle.judging.specs.Judging.{row_place, row_byte, row_same}

-- byte k of row y is the same in both
abbrev pub same_byte : List ℕ → List ℕ → ℕ → ℕ → Bool
same_byte plate picture y k = eqb (row_byte plate y k) (row_byte picture y k)

-- where the two of tile t stand
abbrev pub tile_row : ℕ → ℕ → ℕ
tile_row y t = 256 * (y / 8) + 2 * (y % 8) + 16 * t

module _ (plate picture : List ℕ) (y : ℕ) where
  -- a byte that differs
  pub differs : (k place : ℕ) → place ≡ row_place y k → k < 32 → (get_or plate place 0 ≡ get_or picture place 0 → ⊥) → false ≡ row_same plate picture y
  unfolding row_same
  differs k place e h n = sym (each_fails (same_byte plate picture y) 32 k h (ne_eqb _ _ (λ q. n (rw e q))))

  -- and one that is the same
  same_more : (k place : ℕ) → place ≡ row_place y k → each (same_byte plate picture y) k ≡ true → get_or plate place 0 ≡ get_or picture place 0
      → each (same_byte plate picture y) (k + 1) ≡ true
  same_more k place e all q = each_more (same_byte plate picture y) k all (eq-eqb _ _ (rw e at q))

  -- the two of tile t
  pub same_tile : (t : ℕ) → each (same_byte plate picture y) (2 * t) ≡ true
      → get_or plate (tile_row y t) 0 ≡ get_or picture (tile_row y t) 0 → get_or plate (tile_row y t + 1) 0 ≡ get_or picture (tile_row y t + 1) 0 → each (same_byte plate picture y) (2 * (t + 1)) ≡ true
  same_tile t all low high =
      let n : 2 * (t + 1) ≡ 2 * t + 1 + 1 = omega arith in
      rw n (same_more (2 * t + 1) (tile_row y t + 1) (omega arith) (same_more (2 * t) (tile_row y t) (omega arith) all low) high)

  -- all sixteen
  pub same_end : (t : ℕ) → t ≡ 16 → each (same_byte plate picture y) (2 * t) ≡ true → true ≡ row_same plate picture y
  unfolding row_same
  same_end t e all = sym (rw e at all)
