-- The ranges that the definitions keep. Assumes nothing.
use mathlib.Core.Bool.{Bool, true, false}
use mathlib.Core.List.{List}
use mathlib.Core.Path.{◌≡◌}
use Prim.Native.Nat.{ℕ, zero, suc, ◌+◌, ◌≤◌, ◌<◌}
use native.Mathlib.Omega.{arith}
use lib.IntN.{ℤ, pos, negsuc, nat_abs, ◌+ℤ◌, ◌-ℤ◌}
use lib.ListN.{get_or}
use lib.Signed.{mag, non_neg, pos-nat_abs}
use lib.Dec.{T, ltb, lit<}
use Rattle.laws.specs.Pick.{pick}
use Rattle.laws.proofs.Pick.{pick_ind}
use Rattle.laws.proofs.Signed.{sub_ind, abs_mag}
use Rattle.lighting.specs.declared.Setting.{Setting}
use Rattle.lighting.specs.Taken.{setting_of}
use Rattle.filters.specs.Aside.{Small}
use Rattle.sensor.specs.Nine.{signed_at, three_of, nine_of, step4}
use Rattle.sensor.specs.Row.{passes, row_filter, step5}
use Rattle.sensor.specs.Shade.{value_at, element, shade_of, shade_at}
use Rattle.sensor.specs.Aside.{Nine}
use Rattle.filters.proofs.Facts.{held_small, edge_small}

-- ---- signed values

-- a byte less 128 lies in −128..127, and what lies there, with 128 added, is a byte
pub centred : (n : ℕ) → n < 256 → mag (pos n -ℤ pos 128) < 128
centred n h = sub_ind n 128 (λ z. mag z < 128) (λ k. omega arith) (λ k. omega arith)

pub raised : (z : ℤ) → mag z < 128 → T (non_neg (z +ℤ pos 128)) × (nat_abs (z +ℤ pos 128) < 256)
raised (pos n) h = (tt, omega arith)
raised (negsuc n) h = sub_ind 128 (suc n) (λ z. T (non_neg z) × (nat_abs z < 256)) (λ k. absurd (omega arith)) (λ k. (tt, omega arith))

-- ---- the nine values of lit values that are bytes
module _ (lit : ℕ → ℕ → ℕ) (bytes : (x row : ℕ) → lit x row < 256) where
  signed_small : (x row : ℕ) → mag (signed_at lit x row) < 128
  unfolding signed_at
  signed_small x row = centred _ (bytes x row)

  three_small : (x row j : ℕ) → mag (get_or (three_of lit x row) j (pos 0)) < 128
  unfolding three_of
  three_small x row zero = signed_small _ _
  three_small x row (suc zero) = signed_small _ _
  three_small x row (suc (suc zero)) = signed_small _ _
  three_small x row (suc (suc (suc j))) = lit< tt

  nine_small : (x row : ℕ) → Small (nine_of lit x row)
  unfolding nine_of
  nine_small x row zero j = three_small x _ j
  nine_small x row (suc zero) j = three_small x _ j
  nine_small x row (suc (suc zero)) j = three_small x _ j
  nine_small x row (suc (suc (suc i))) j = lit< tt

  pub nine_bound : (x row : ℕ) {n : List (List ℤ)} → n ≡ nine_of lit x row → Nine lit x row n
  nine_bound x row e = record { same = e; small = rw e (nine_small x row) }

  module _ (set : Setting) (x row : ℕ) where
    pub step4_small : mag (step4 lit set x row) < 128
    unfolding step4
    step4_small = edge_small (nine_of lit x row) (nine_small x row) set.mode set.quarters

    pub step4_size : nat_abs (step4 lit set x row) ≤ 128
    step4_size = abs_mag (step4 lit set x row) step4_small

    pub step5_small : mag (step5 lit set x row) < 128
    unfolding step5 row_filter
    step5_small = pick_ind (λ z. mag z < 128) (passes set.mode) (λ e. held_small _) (λ e. step4_small)

    -- a value is the step 5 value with 128 added: nothing is lost
    pub value_exact : pos (value_at lit set x row) ≡ step5 lit set x row +ℤ pos 128
    unfolding value_at
    value_exact = pos-nat_abs _ (raised (step5 lit set x row) step5_small).0

-- ---- the shade

four : (a b c : Bool) → pick {X = ℕ} a 3 (pick b 2 (pick c 1 0)) < 4
four true b c = lit< tt
four false true c = lit< tt
four false false true = lit< tt
four false false false = lit< tt

pub shade_small : (lit : ℕ → ℕ → ℕ) (regs : List ℕ) (x row : ℕ) → shade_at lit regs x row < 4
unfolding shade_at shade_of
shade_small lit regs x row =
    let v = value_at lit (setting_of regs) x row in
    let e = element x row in
    four (ltb v (get_or regs e 0)) (ltb v (get_or regs (e + 1) 0)) (ltb v (get_or regs (e + 2) 0))
