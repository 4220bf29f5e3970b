-- `session::session::read_answer` meets its contract: case by case. Assumes nothing.
use mathlib.Core.Path.{refl, sym, ◌∙◌}
use native.Mathlib.Omega.{arith}
use Rattle.session.specs.Answer.{answer_text}
use Rattle.session.proofs.Texts.{refused_text}
use Rattle.session.proofs.session.read_answer.Goals as goal

pub returns-in-Ok : goal.returns-in-Ok
unfolding answer_text
returns-in-Ok c = (rw (c.in-Ok.is, c.from.ensures) refl, record { few = omega arith; small = omega arith })

pub returns-in-Err : goal.returns-in-Err
returns-in-Err c =
    let n = c.in-Err.why in
    (rw c.in-Err.is (c.refused.ensures.0 ∙ refused_text n 0 0 ∙ sym (refused_text n 2 0)), c.refused.ensures.1)
