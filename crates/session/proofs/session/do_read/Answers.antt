-- `session::session::do_read` meets its contract: the call's outcome, and its answer's text. Assumes nothing.
use Rattle.session.proofs.Steps.{obeys_left, read_whole}
use Rattle.session.proofs.session.do_read.Goals as goal

pub returns : goal.returns
returns c =
    let s = c in
    let a = s.args in
    obeys_left 2 _ a.state.now _ _ _ _ _ c.read.ensures (read_whole a.state.now a.rom.now a.ram.now a.address (λ k. (c.shared_slice_known-1.given k).fits) s.requires) c.read_answer.ensures.0 c.read_answer.ensures.1
