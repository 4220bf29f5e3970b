-- `controller::Controller::inspect` meets its contract: it is judged, and then the first reversed element is named. Assumes nothing.
use Rattle.std.proofs.Common.{◌∙◌, le-ltb, lt-ltb}
use Rattle.controller.specs.Inspect.{inspect_rows}
use Rattle.controller.proofs.First.{named_level, named_at}
use Rattle.controller.specs.Table.{lowest}
use Rattle.std.proofs.lemmas.Result.{err_from_is_err_and}
use Rattle.controller.proofs.Refusals.{inspect_refuses, by_why, by_fits}
use Rattle.controller.proofs.Controller.inspect.Goals as goal

pub returns-in_err-no_state : goal.returns-in_err-no_state
unfolding inspect_rows lowest
returns-in_err-no_state c =
    let p = err_from_is_err_and c.from_residual.result c.from_residual.ensures.1 in
    rw (p.1, p.2) (by_why (inspect_refuses _) _ c.no_state.ensures _ c.in_err-no_state.was)

pub returns-then-first-ge16 : goal.returns-then-first-ge16
unfolding inspect_rows lowest
returns-then-first-ge16 c =
    named_level _ _ c.first_reversed-first.ensures (le-ltb _ _ c.if-first-ge16.true)
    ∙ by_fits (inspect_refuses _) _ c.no_state.ensures c.in_ok-no_state.was

pub returns : goal.returns
unfolding inspect_rows lowest
returns c =
    named_at _ _ c.first_reversed-first.ensures (lt-ltb _ _ c.if-first-ge16.false)
    ∙ by_fits (inspect_refuses _) _ c.no_state.ensures c.in_ok-no_state.was
