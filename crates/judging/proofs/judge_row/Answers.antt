-- `judging::judge_row` meets its contract: the test is the definition's. Assumes nothing.
use mathlib.Core.Path.{◌≡◌}
use mathlib.Core.Bool.{Bool, true, false}
use Prim.Native.Nat.{ℕ, ◌<◌}
use native.Mathlib.Omega.{arith}
use mir.Val.{bool_byte}
use Rattle.laws.specs.Pick.{pick}
use Rattle.judging.specs.Judging.{row_judged}
use Rattle.judging.proofs.judge_row.Goals as goal

judged : (same : Bool) (n : ℕ) → n ≡ bool_byte same → (n ≡ pick same 1 0) × (n < 2)
judged true n e = (e, omega arith)
judged false n e = (e, omega arith)

pub returns : goal.returns
unfolding row_judged
returns c = rw (← c.same_row.ensures) (judged _ _ c.from.ensures)
