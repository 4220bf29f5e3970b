-- `judging::same_row` meets its contract. The invariant: the bytes of the first t tiles are the same. Assumes nothing.
use Prim.Native.Nat.{◌+◌, ◌*◌}
use native.Mathlib.Omega.{arith}
use Rattle.placing.proofs.Each.{each_none}
use Rattle.judging.proofs.Same.{differs, same_tile, same_end}
use Rattle.judging.proofs.same_row.Goals as goal
use Rattle.judging.proofs.same_row.Goals.{then-plate-low-via-then-plate-low, then-plate-low-via-else-plate-low+then-plate-high}

pub loop-t-init : goal.loop-t-init
loop-t-init c = (omega arith, each_none _)

pub returns-then-plate-low : goal.returns-then-plate-low
returns-then-plate-low c =
    let l = c.loop-t in
    elim c.then-plate-low.branch [
      | then-plate-low-via-then-plate-low w ↦ differs _ _ _ (2 * l.t) _ (omega arith) (omega arith) w.if-plate-low.true
      | then-plate-low-via-else-plate-low+then-plate-high w ↦ differs _ _ _ (2 * l.t + 1) _ (omega arith) (omega arith) w.if-plate-high.true
    ]

pub loop-t-preserved : goal.loop-t-preserved
loop-t-preserved c =
    let l = c.loop-t in
    let a = c.args in
    (omega arith, same_tile a.plate.now a.picture.now a.y l.t l.invariant.1 c.if-plate-low.false c.if-plate-high.false)

pub returns : goal.returns
returns c = same_end _ _ _ c.loop-t.t (omega arith) c.loop-t.invariant.1
