-- `session::session::do_write` meets its contract: the call's outcome, and its answer's text. Assumes nothing.
use Rattle.calls.proofs.Left.{write_whole}
use Rattle.session.proofs.Steps.{obeys_left}
use Rattle.session.proofs.session.do_write.Goals as goal

pub returns : goal.returns
returns c =
    let s = c in
    let a = s.args in
    obeys_left 0 _ _ _ _ _ _ _ c.write.ensures (write_whole a.state.now a.ram.now a.store.now (λ k. (c.slice_known-1.given k).fits) s.requires a.image.now a.address a.value) c.write_answer.ensures.0 c.write_answer.ensures.1
