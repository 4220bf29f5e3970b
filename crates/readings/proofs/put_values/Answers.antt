-- `readings::put_values` meets its contract: the invariant: the values of the rows before y are put, and what the next row needs is carried. Assumes nothing.
use mathlib.Core.Path.{◌≡◌, ◌∙◌}
use Prim.Native.Nat.{◌+◌, ◌-◌, ◌*◌}
use native.Mathlib.Omega.{arith}
use Rattle.laws.proofs.Filled.{filled_end, filled_to}
use Rattle.readings.proofs.Parts.{filled_part, row_listed}
use Rattle.readings.proofs.put_values.Goals as goal

pub loop-y-preserved : goal.loop-y-preserved
loop-y-preserved c =
    let l = c.loop-y in
    let y = l.y in
    let k : 128 * y + 128 - 128 * y ≡ 128 = omega arith in
    let next : y + 8 + 1 ≡ y + 1 + 8 = omega arith in
    let to : 128 * y + 128 ≡ 128 * (y + 1) = omega arith in
    (omega arith, rw next at c.put_row.ensures.1, filled_to _ (rw k (filled_part _ 128 l.invariant.2 (c.put_row.ensures.0 ∙ row_listed _ _ y) (omega arith))) to)

pub returns : goal.returns
returns c = filled_end _ _ c.loop-y.invariant.2 (omega arith)
