-- `session::session::refused` meets its contract: a refusal prints its number alone. Assumes nothing.
use mathlib.Core.Path.{refl, sym}
use native.Mathlib.Omega.{arith}
use Rattle.session.proofs.Texts.{refused_text, number_small}
use Rattle.session.proofs.session.refused.Goals as goal

pub returns : goal.returns
returns c = (rw c.from.ensures (sym (refused_text c.args.r 0 0)), record { few = omega arith; small = rw c.from.ensures (number_small c.args.r) }, refl)
