-- The ranges that the filters keep. Assumes nothing.
use mathlib.Core.Bool.{true, false, cond}
use mathlib.Core.List.{List}
use mathlib.Core.Path.{◌≡◌, refl}
use Prim.Native.Nat.{ℕ, ◌<◌}
use native.Mathlib.Nat.{lt_of_lt_of_le}
use native.Mathlib.Omega.{arith}
use borrow.Author.Tests.{ltb-false}
use lib.IntN.{ℤ, pos, negsuc}
use lib.Signed.{mag, lt_z}
use mir.Syntax.{w32}
use mir.Val.{to_z, of_z}
use lib.Dec.{lit≤, eqb, ltb, lit<}
use Rattle.std.specs.Int.{int_max, int_min}
use Rattle.laws.specs.Pick.{pick}
use Rattle.laws.proofs.Signed.{got}
use Rattle.laws.proofs.Pick.{pick_ind}
use Rattle.filters.specs.Edge.{nine, held, mode2, mode3, mode_c, mode_d, mode_e, mode_f, edge_of}
use Rattle.filters.specs.Aside.{Small}

-- ---- what is held

-- so std's clamp holds
pub clamped : (v : ℤ) → int_max (negsuc 127) (int_min v (pos 127)) ≡ held v
unfolding held
clamped (pos n) = elim (ltb 127 n) as (λ t. cond (lt_z (cond t (pos 127) (pos n)) (negsuc 127)) (negsuc 127) (cond t (pos 127) (pos n)) ≡ pick t (pos 127) (pos n)) [ true ↦ refl | false ↦ refl ]
clamped (negsuc n) = elim (ltb 127 n) as (λ t. cond t (negsuc 127) (negsuc n) ≡ pick t (negsuc 127) (negsuc n)) [ true ↦ refl | false ↦ refl ]

pub held_small : (v : ℤ) → mag (held v) < 128
unfolding held
held_small (pos n) = pick_ind (λ z. mag z < 128) (ltb 127 n) (λ e. lit< tt) (λ e. omega (arith, ltb-false 127 n e))
held_small (negsuc n) = pick_ind (λ z. mag z < 128) (ltb 127 n) (λ e. lit< tt) (λ e. omega (arith, ltb-false 127 n e))

-- ---- step 4

-- each of nine small values is read back from its bits
pub back : (n : List (List ℤ)) → Small n → (i j : ℕ) → to_z w32 (of_z w32 (nine n i j)) ≡ nine n i j
back n s i j = got w32 (lt_of_lt_of_le (s i j) (lit≤ tt)) refl

-- the value of any mode lies in −128..127
module _ (n : List (List ℤ)) (s : Small n) (mode q : ℕ) where
  pub edge_small : mag (edge_of mode q n) < 128
  unfolding edge_of mode2 mode3 mode_c mode_d mode_e mode_f
  edge_small =
      let P : ℤ → Type 0 = λ z. mag z < 128 in
      pick_ind P (eqb mode 0x1) (λ e. lit< tt) (λ e.
      pick_ind P (eqb mode 0x2) (λ e. held_small _) (λ e.
      pick_ind P (eqb mode 0x3) (λ e. held_small _) (λ e.
      pick_ind P (eqb mode 0xC) (λ e. held_small _) (λ e.
      pick_ind P (eqb mode 0xD) (λ e. held_small _) (λ e.
      pick_ind P (eqb mode 0xE) (λ e. held_small _) (λ e.
      pick_ind P (eqb mode 0xF) (λ e. held_small _) (λ e. s 1 1)))))))
