-- `judging::judge` meets its contract: it is judged, the picture drawn, and then row by row. Assumes nothing.
use mathlib.Core.Path.{◌∙◌}
use native.Mathlib.Omega.{arith}
use lib.ListN.{length-take, length-drop}
use Rattle.std.proofs.lemmas.Result.{err_from_is_err_and}
use Rattle.controller.proofs.Refusals.{by_why, by_fits, fits_none}
use Rattle.judging.proofs.Outcomes.{judge_refuses, judge_fits, drawn, drawn_fits, judged_rows}
use Rattle.judging.proofs.judge.Goals as goal

pub returns-in_err-judge_lent : goal.returns-in_err-judge_lent
returns-in_err-judge_lent c =
    let p = err_from_is_err_and c.from_residual.result c.from_residual.ensures.1 in
    rw (p.1, p.2) (by_why (judge_refuses _ _ _ _) _ c.judge_lent.ensures _ c.in_err-judge_lent.was)

-- a frame of that size is not refused
pub returns-in_err-picture : goal.returns-in_err-picture
returns-in_err-picture c =
    let a = c.args in
    let f = judge_fits a.frame.now a.rows.now (fits_none _ _ c.judge_lent.ensures c.in_ok-judge_lent.was) in
    absurd (drawn_fits a.frame.now a.registers _ _ _ _ f.0 c.picture.ensures c.in_err-picture.was)

pub slice_bounds-judge_rows-end : goal.slice_bounds-judge_rows-end
slice_bounds-judge_rows-end c = (judge_fits _ _ (fits_none _ _ c.judge_lent.ensures c.in_ok-judge_lent.was)).1

pub returns : goal.returns
returns c =
    let j = c.judge_rows.ensures in
    let a = c.args in
    let f = judge_fits a.frame.now a.rows.now (fits_none _ _ c.judge_lent.ensures c.in_ok-judge_lent.was) in
    judged_rows a.plate.now _ _ a.rows.now _ _ (drawn a.frame.now a.registers _ _ _ f.0 c.picture.ensures) j.rows_after j.value
    ∙ by_fits (judge_refuses _ _ _ _) _ c.judge_lent.ensures c.in_ok-judge_lent.was
