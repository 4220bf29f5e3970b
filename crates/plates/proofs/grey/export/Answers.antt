-- `plates::grey::export` meets its contract: it is judged, and then done. Assumes nothing.
use mathlib.Core.Path.{ap, ◌∙◌}
use Rattle.timing.proofs.Lent.{ram_lent}
use Rattle.std.proofs.lemmas.Result.{err_from_is_err_and}
use Rattle.controller.proofs.Refusals.{by_why, by_fits, fits_none}
use Rattle.shades.specs.Shades.{exported}
use Rattle.plates.proofs.Exports.{export_refuses, export_fits}
use Rattle.plates.proofs.grey.export.Goals as goal

pub returns-in_err-judge_export : goal.returns-in_err-judge_export
returns-in_err-judge_export c =
    let p = err_from_is_err_and c.from_residual.result c.from_residual.ensures.1 in
    rw (p.1, p.2) (by_why (export_refuses _ _) _ c.judge_export.ensures _ c.in_err-judge_export.was)

pub put_file-requires : goal.put_file-requires
put_file-requires c =
    let f = export_fits _ _ (fits_none _ _ c.judge_export.ensures c.in_ok-judge_export.was) in
    ((ram_lent _ f.0).least, f.1)

pub returns : goal.returns
returns c =
    ap (exported 0 14351) c.put_file.ensures
    ∙ by_fits (export_refuses _ _) _ c.judge_export.ensures c.in_ok-judge_export.was
