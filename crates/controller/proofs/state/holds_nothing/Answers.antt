-- `controller::state::holds_nothing` meets its contract. Assumes nothing.
use mathlib.Core.Bool.{not-not}
use Rattle.std.proofs.Common.{eq-eqb, ne_eqb}
use Rattle.controller.specs.State.{left_over}
use Rattle.controller.proofs.state.holds_nothing.Goals as goal

pub returns-then-elapsed-ne0 : goal.returns-then-elapsed-ne0
unfolding left_over
returns-then-elapsed-ne0 c = simp (ne_eqb _ _ c.if-elapsed-ne0.true)

pub returns : goal.returns
unfolding left_over
returns c = simp (eq-eqb _ _ c.if-elapsed-ne0.false, c.all_zero.ensures, not-not)
