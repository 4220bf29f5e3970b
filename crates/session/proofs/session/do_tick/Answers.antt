-- `session::session::do_tick` meets its contract: the call's outcome, and its answer's text. Assumes nothing.
use mathlib.Core.Path.{◌∙◌}
use Rattle.calls.proofs.Left.{tick_whole}
use Rattle.session.proofs.Steps.{obeys_left}
use Rattle.session.proofs.session.do_tick.Goals as goal

pub returns : goal.returns
returns c =
    let s = c in
    let a = s.args in
    let e = c.tick.ensures in
    (obeys_left 8 _ _ _ _ _ _ _ e (tick_whole a.state.now a.ram.now a.store.now (λ k. (c.slice_known-1.given k).fits) s.requires a.n) c.tick_answer.ensures.0 c.tick_answer.ensures.1, c.tick_answer.ensures.2 ∙ (λ i. (e i).value))
