-- `salvage::put::left_after` meets its contract: its tests are the definition's. Assumes nothing.
use native.Mathlib.Omega.{arith}
use Rattle.salvaging.specs.Kept.{left_after}
use Rattle.salvaging.proofs.put.left_after.Goals as goal

pub returns-then-not-good : goal.returns-then-not-good
unfolding left_after
returns-then-not-good c = simp (c.if-not-good.true)

pub returns-then-left-eq0 : goal.returns-then-left-eq0
unfolding left_after
returns-then-left-eq0 c = simp (c.if-not-good.false) (omega arith)

pub overflow_sub-result : goal.overflow_sub-result
overflow_sub-result c = omega (arith, c.if-left-eq0.false)

pub returns : goal.returns
unfolding left_after
returns c = simp (c.if-not-good.false)
