-- `save::writing::save` meets its contract: it is judged, and then done. Assumes nothing.
use mathlib.Core.Path.{ap, ◌∙◌}
use native.Mathlib.Omega.{arith}
use lib.ListN.{length}
use Rattle.std.proofs.lemmas.Result.{err_from_is_err_and}
use Rattle.controller.proofs.Refusals.{by_why, by_fits, fits_none}
use Rattle.shades.specs.Shades.{exported}
use Rattle.save.specs.Save.{save_length}
use Rattle.save.proofs.Saved.{save_refuses, save_fits, fit_lengths}
use Rattle.save.proofs.writing.save.Goals as goal

pub returns-in_err-judge_save : goal.returns-in_err-judge_save
returns-in_err-judge_save c =
    let p = err_from_is_err_and c.from_residual.result c.from_residual.ensures.1 in
    rw (p.1, p.2) (by_why (save_refuses _ _ _ _) _ c.judge_save.ensures _ c.in_err-judge_save.was)

pub put_save-requires : goal.put_save-requires
put_save-requires c =
    let a = c.args in
    let l = fit_lengths (save_fits a.state.now a.ram.now a.store.now a.out.now (fits_none _ _ c.judge_save.ensures c.in_ok-judge_save.was)) in
    record { state_len = (l.state, l.frame); ram_len_bound = (l.most, l.room) }

pub overflow_cast-result : goal.overflow_cast-result
overflow_cast-result c =
    let a = c.args in
    let l = fit_lengths (save_fits a.state.now a.ram.now a.store.now a.out.now (fits_none _ _ c.judge_save.ensures c.in_ok-judge_save.was)) in
    omega (arith, l.most)

pub returns : goal.returns
returns c =
    ap (exported 0 (save_length (length c.args.ram.now))) c.put_save.ensures
    ∙ by_fits (save_refuses _ _ _ _) _ c.judge_save.ensures c.in_ok-judge_save.was
