-- `session::session::done` meets its contract: nothing is refused, so that no digit is left out. Assumes nothing.
use mathlib.Core.Path.{refl}
use native.Mathlib.Omega.{arith}
use Rattle.session.specs.Answer.{answer_text}
use Rattle.session.proofs.session.done.Goals as goal

pub returns : goal.returns
unfolding answer_text
returns c = (refl, record { few = omega arith; small = omega arith })
