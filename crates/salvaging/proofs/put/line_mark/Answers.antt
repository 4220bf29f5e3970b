-- `salvaging::put::line_mark` meets its contract: its tests are the definition's. Assumes nothing.
use mathlib.Core.Path.{sym}
use Rattle.salvaging.specs.Kept.{mark_of}
use Rattle.salvaging.proofs.Puts.{some_kept}
use Rattle.salvaging.proofs.put.line_mark.Goals as goal

pub returns-then-not-good : goal.returns-then-not-good
unfolding mark_of
returns-then-not-good c = simp (c.if-not-good.true)

pub returns-then-left-eq0 : goal.returns-then-left-eq0
unfolding mark_of
returns-then-left-eq0 c = simp (c.if-not-good.false, c.if-left-eq0.true)

pub returns : goal.returns
unfolding mark_of
returns c = simp (c.if-not-good.false) (sym (some_kept _ c.if-left-eq0.false))
