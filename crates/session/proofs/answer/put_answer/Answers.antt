-- `session::answer::put_answer` meets its contract: an answer is a line of its own. Assumes nothing.
use native.Mathlib.Omega.{arith}
use Rattle.lines.proofs.Placed.{length_printed}
use Rattle.session.proofs.answer.put_answer.Goals as goal

pub returns : goal.returns
returns c =
    let a = c.args.a in
    (c.put_line.ensures.0, omega (arith, length_printed a.number a.digits a.value), omega arith)
