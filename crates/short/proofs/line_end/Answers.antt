-- `short::line_end` meets its contract: the invariant is that no byte passed is LF. Assumes nothing.
use mathlib.Core.Path.{sym, ◌∙◌}
use Rattle.short.proofs.Standing.{ends_found, ends_none}
use Rattle.short.proofs.line_end.Goals as goal

pub returns-in-Some : goal.returns-in-Some
returns-in-Some c = ends_found _ _ _ c.loop-i.invariant.2 _ c.loop-i.invariant.0 c.loop-i.invariant.1 (sym c.first_lf.ensures ∙ c.in-Some.is)

pub returns-in-None : goal.returns-in-None
returns-in-None c = ends_none _ _ _ c.loop-i.invariant.2 c.requires c.loop-i.invariant.1 (sym c.first_lf.ensures ∙ c.in-None.is)
