-- The ranges that light and settings keep. Assumes nothing.
use mathlib.Core.Path.{◌≡◌, sym, ap, ◌∙◌}
use mathlib.Core.Bool.{Bool, ◌&&◌}
use mathlib.Core.List.{List, [], ◌∷◌}
use Prim.Native.Nat.{ℕ, zero, suc, ◌+◌, ◌*◌, ◌/◌, ◌%◌, ◌≤◌, ◌<◌}
use native.Mathlib.Nat.{mul-add, mul_assoc}
use native.Mathlib.Omega.{arith}
use lib.IntN.{nat_abs}
use lib.ListN.{get_or}
use lib.Signed.{non_neg}
use mir.Facts.{and_yes}
use lib.Dec.{T, eqb, eqb→eq, ltb, ltb→lt, lit≤}
use Rattle.laws.proofs.Table.{at}
use Rattle.lighting.specs.Taken.{alphas}
use Rattle.lighting.specs.Light.{adapted_z, adapted, turned}

-- ---- the adaptation

-- step 1 of a byte is a byte, by one test of all 256
none : ℕ → List ℕ
none zero = []
none (suc n) = 0 ∷ none n

pub adapted_byte : (v : ℕ) → v < 256 → T (non_neg (adapted_z v)) × (nat_abs (adapted_z v) < 256)
unfolding adapted_z none
adapted_byte v h =
    let p = and_yes (non_neg (adapted_z v)) (ltb (nat_abs (adapted_z v)) 256) (at (λ k x. non_neg (adapted_z k) && ltb (nat_abs (adapted_z k)) 256) (none 256) tt v h) in
    (p.0, ltb→lt (nat_abs (adapted_z v)) 256 p.1)

-- step 1 by means: of v or, from 128 on, of its negative
abbrev mean_of : ℕ → ℕ → ℕ
mean_of a b = (a + b + 1) / 2

abbrev pub adapted_by : Bool → ℕ → ℕ
adapted_by up v = turned up (mean_of (turned up v) (mean_of (turned up 128) (mean_of (turned up 128) (turned up v))))

-- it is step 1, by one test of all 256 again
pub adapted_means : (v : ℕ) → v < 256 → adapted_by (ltb 127 v) v ≡ adapted v
unfolding adapted adapted_z turned none
adapted_means v h =
    eqb→eq (adapted_by (ltb 127 v) v) (adapted v) (at (λ k x. eqb (adapted_by (ltb 127 k) k) (adapted k)) (none 256) tt v h)

-- ---- the exposure

-- times its high byte and times its low byte
pub exposure_split : (v e : ℕ) → v * (e / 256) + v * (e % 256) / 256 ≡ v * e / 256
exposure_split v e =
    let whole : e ≡ e / 256 * 256 + e % 256 = omega arith in
    let parts : v * e ≡ v * (e / 256) * 256 + v * (e % 256) = ap (λ (n : ℕ). v * n) whole ∙ mul-add v (e / 256 * 256) (e % 256) ∙ ap (λ (n : ℕ). n + v * (e % 256)) (sym (mul_assoc v (e / 256) 256)) in
    omega (arith, parts)

-- ---- what the registers ask

pub quarters_small : (k : ℕ) → get_or alphas k 0 ≤ 20
quarters_small zero = lit≤ tt
quarters_small (suc zero) = lit≤ tt
quarters_small (suc (suc zero)) = lit≤ tt
quarters_small (suc (suc (suc zero))) = lit≤ tt
quarters_small (suc (suc (suc (suc zero)))) = lit≤ tt
quarters_small (suc (suc (suc (suc (suc zero))))) = lit≤ tt
quarters_small (suc (suc (suc (suc (suc (suc zero)))))) = lit≤ tt
quarters_small (suc (suc (suc (suc (suc (suc (suc zero))))))) = lit≤ tt
quarters_small (suc (suc (suc (suc (suc (suc (suc (suc k)))))))) = lit≤ tt
