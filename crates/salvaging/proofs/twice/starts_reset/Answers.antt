-- `salvaging::twice::starts_reset` meets its contract: the first line decides. Assumes nothing.
use Rattle.std.proofs.Common.{sym, ap, ◌∙◌}
use Rattle.salvaging.specs.Kept.{starts_reset}
use Rattle.salvaging.proofs.twice.starts_reset.Goals as goal

pub returns-in-Some : goal.returns-in-Some
unfolding starts_reset
returns-in-Some c = c.is_reset.ensures ∙ sym (ap starts_reset c.in-Some.ensures.steps)

pub returns-in-None : goal.returns-in-None
unfolding starts_reset
returns-in-None c = sym (ap starts_reset c.in-None.ensures.steps.0)
