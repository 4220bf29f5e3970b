-- `judging::judge_rows` meets its contract. The invariant: the rows judged so far, and how many of them are equal. Assumes nothing.
use mathlib.Core.Path.{◌≡◌}
use native.Mathlib.Omega.{arith}
use Rattle.laws.proofs.Filled.{filled_none, filled_more, filled_end}
use Rattle.judging.proofs.Outcomes.{equal_none, equal_more}
use Rattle.judging.proofs.judge_rows.Goals as goal

pub loop-y-init : goal.loop-y-init
loop-y-init c = (omega arith, omega arith, equal_none _ _, filled_none _ _ (omega arith))

pub loop-y-preserved : goal.loop-y-preserved
loop-y-preserved c =
    let l = c.loop-y in
    let r = c.judge_row-row.ensures in
    (omega arith, omega (arith, r.1), equal_more _ _ l.y _ _ l.invariant.2 r.0, filled_more _ _ l.invariant.3 (omega arith) r.0)

pub returns : goal.returns
returns c =
    let l = c.loop-y in
    let e : l.y ≡ 112 = omega arith in
    record { rows_after = filled_end _ _ l.invariant.3 e; value = rw e at l.invariant.2 }
