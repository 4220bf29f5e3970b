-- `calls::no_state` meets its contract: the row, with what the test equals. Assumes nothing.
use mathlib.Core.Path.{◌≡◌, ap, ◌∙◌}
use mathlib.Core.Bool.{Bool, not, not-not}
use Rattle.controller.specs.State.{cant_exist}
use Rattle.layout.specs.Layout.{decoded}
use Rattle.calls.proofs.no_state.Goals as goal

pub returns : goal.returns
returns c =
    let e : ◌≡◌ {A = Bool} (not c.exists.result) (cant_exist (decoded c.args.state.now)) = ap not c.exists.ensures ∙ not-not _ in
    rw e at c.refused_if.ensures
