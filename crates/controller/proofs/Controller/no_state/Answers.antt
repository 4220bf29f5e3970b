-- `controller::Controller::no_state` meets its contract: the row, with what the test equals. Assumes nothing.
use Rattle.std.proofs.Common.{◌≡◌, Bool, not, ap, ◌∙◌}
use mathlib.Core.Bool.{not-not}
use Rattle.controller.specs.State.{cant_exist}
use Rattle.controller.proofs.Controller.no_state.Goals as goal

pub returns : goal.returns
returns c =
    let e : ◌≡◌ {A = Bool} (not c.exists.result) (cant_exist c.args.self) = ap not c.exists.ensures ∙ not-not _ in
    rw e at c.refused_if.ensures
