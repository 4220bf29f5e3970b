-- Every three values of the table rise or stay level: one test of the whole table, and what it tells of each three. Assumes nothing.
use mathlib.Core.Path.{◌≡◌, refl}
use mathlib.Core.Bool.{Bool, true, false, ◌&&◌, false≢true}
use mathlib.Core.List.{List, [], ◌∷◌}
use Prim.Native.Nat.{ℕ, zero, suc, ◌+◌, ◌*◌, ◌/◌, ◌%◌, ◌≤◌}
use native.Mathlib.Omega.{arith}
use lib.Dec.{leb}
use lib.ListN.{get_or}
use borrow.Author.Tests.{leb-true}
use Rattle.laws.proofs.Bools.{both_left, both_right}
use Rattle.desk.specs.Levels.{levels, rising}
use Rattle.desk.specs.Choice.{matrix_from, value_of}

-- the test, computed
pub levels_rise : rising levels ≡ true
unfolding levels rising
levels_rise = refl

-- the three values from place i on
pub record Rise (xs : List ℕ) (i : ℕ) : Type 0 where
  pub low : get_or xs i 0 ≤ get_or xs (suc i) 0
  pub high : get_or xs (suc i) 0 ≤ get_or xs (suc (suc i)) 0

pub rise_at : (xs : List ℕ) → rising xs ≡ true → (t : ℕ) → Rise xs (3 * t)
unfolding rising
rise_at [] e t = record { low = omega arith; high = omega arith }
rise_at (l ∷ []) e t = absurd (false≢true e)
rise_at (l ∷ m ∷ []) e t = absurd (false≢true e)
rise_at (l ∷ m ∷ h ∷ rest) e zero =
    let here = both_left (leb l m && leb m h) (rising rest) e in
    record { low = leb-true l m (both_left (leb l m) (leb m h) here); high = leb-true m h (both_right (leb l m) (leb m h) here) }
rise_at (l ∷ m ∷ h ∷ rest) e (suc t) =
    let next : 3 * suc t ≡ suc (suc (suc (3 * t))) = omega arith in
    let r = rise_at rest (both_right (leb l m && leb m h) (rising rest) e) t in
    rw next (record { low = r.low; high = r.high })

-- the three values chosen for an element rise or stay level, with dithering and without
pub value_rises : (light level : ℕ) (plain : Bool) (e : ℕ) → (value_of light level plain (3 * e) ≤ value_of light level plain (3 * e + 1)) × (value_of light level plain (3 * e + 1) ≤ value_of light level plain (3 * e + 2))
unfolding value_of
value_rises light level true e =
    let t = matrix_from light level / 3 in
    let r = rise_at levels levels_rise t in
    let p : matrix_from light level + 3 * e % 3 ≡ 3 * t = omega arith in
    let q : matrix_from light level + (3 * e + 1) % 3 ≡ suc (3 * t) = omega arith in
    let s : matrix_from light level + (3 * e + 2) % 3 ≡ suc (suc (3 * t)) = omega arith in
    rw (p, q, s) (r.low, r.high)
value_rises light level false e =
    let t = matrix_from light level / 3 + e in
    let r = rise_at levels levels_rise t in
    let p : matrix_from light level + 3 * e ≡ 3 * t = omega arith in
    let q : matrix_from light level + (3 * e + 1) ≡ suc (3 * t) = omega arith in
    let s : matrix_from light level + (3 * e + 2) ≡ suc (suc (3 * t)) = omega arith in
    rw (p, q, s) (r.low, r.high)
