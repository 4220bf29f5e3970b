-- `salvaging::put::put_report` meets its contract: the invariant is that what is still to be put, from here and from the start, comes to the same.
-- Assumes nothing.
use Rattle.std.proofs.Common.{sym, ap, refl, ◌∙◌, length, arith}
use Rattle.lines.specs.Hex.{placed}
use Rattle.lines.proofs.Placed.{placed_none}
use Rattle.salvaging.proofs.Puts.{marks_next, marks_none, mark_next}
use Rattle.salvaging.proofs.put.put_report.Goals as goal

pub loop-i-init : goal.loop-i-init
loop-i-init c =
    let e = c.enumerate-i-items.ensures in
    rw (c.into_iter-i-iterator.ensures.into_iter_gives, e.source, e.count) (omega (arith, c.requires), refl)

-- the line that is reported, and those after it
pub bounds-report-i : goal.bounds-report-i
bounds-report-i c = let s = c.in-Some.ensures.steps in omega (arith, c.loop-i.invariant.0, ap length s.0, s.1)

pub loop-i-preserved : goal.loop-i-preserved
loop-i-preserved c =
    let l = c.loop-i in
    let s = c.in-Some.ensures.steps in
    let m = marks_next l.left s.0 c.is_accepted-good.ensures (c.from.ensures ∙ c.line_mark.ensures) c.left_after-left.ensures in
    (omega (arith, l.invariant.0, ap length s.0, s.2), rw (s.1, s.2) (mark_next l.report l.i-iterator.count c.from.result _ _ (omega (arith, l.invariant.0, ap length s.0)) m ∙ l.invariant.1))

pub returns : goal.returns
returns c =
    let l = c.loop-i in
    sym (placed_none l.report l.i-iterator.count)
    ∙ ap (placed l.report l.i-iterator.count) (sym (marks_none l.left c.in-None.ensures.steps.0.0))
    ∙ l.invariant.1
