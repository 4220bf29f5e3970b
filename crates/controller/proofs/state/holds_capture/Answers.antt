-- `controller::state::holds_capture` meets its contract. Assumes nothing.
use Rattle.std.proofs.Common.{get_or, le-ltb, lt-ltb}
use Rattle.controller.proofs.Records.{odd_not, odd_yes, not_leb}
use Rattle.controller.specs.State.{wrong_capture}
use Rattle.controller.proofs.state.holds_capture.Goals as goal

pub returns-then-first-eq0 : goal.returns-then-first-eq0
unfolding wrong_capture
returns-then-first-eq0 c = let s = c.before.before.before in simp (odd_not (get_or s.args.taken.now 0 0) c.if-first-eq0.true)

pub returns-then-first-gt7 : goal.returns-then-first-gt7
unfolding wrong_capture
returns-then-first-gt7 c =
    let s = c.before.before.before.before in
    simp (odd_yes (get_or s.args.taken.now 0 0) c.if-first-eq0.false, lt-ltb _ _ c.if-first-gt7.true)

pub returns : goal.returns
unfolding wrong_capture
returns c =
    let t = c.before.before in
    let s = t.before.before.before.before.before in
    simp (odd_yes (get_or s.args.taken.now 0 0) t.if-first-eq0.false, le-ltb _ _ t.if-first-gt7.false, t.total-most.ensures.0, not_leb)
