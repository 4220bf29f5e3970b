-- `readings::readings` meets its contract: it is judged, and then done. Assumes nothing.
use mathlib.Core.Path.{ap, ◌∙◌}
use Rattle.timing.proofs.Lent.{frame_lent}
use Rattle.std.proofs.lemmas.Result.{err_from_is_err_and, MatchResult-at_ok}
use Rattle.controller.proofs.Refusals.{by_why, by_fits, fits_none}
use Rattle.shades.specs.Shades.{exported}
use Rattle.readings.proofs.Values.{readings_refuse, readings_fit}
use Rattle.std.proofs.Common.{List, ℕ, ◌++◌, drop}
use Rattle.lighting.specs.Light.{byte_at}
use Rattle.readings.specs.Readings.{readings_of}
use Rattle.readings.proofs.readings.Goals as goal

pub returns-in_err-judge_readings : goal.returns-in_err-judge_readings
returns-in_err-judge_readings c =
    let p = err_from_is_err_and c.from_residual.result c.from_residual.ensures.1 in
    rw (p.1, p.2) (by_why (readings_refuse _ _ _) _ c.judge_readings.ensures _ c.in_err-judge_readings.was)

pub unwrap-store-requires : goal.unwrap-store-requires
unwrap-store-requires c =
    let f = readings_fit _ _ _ (fits_none _ _ c.judge_readings.ensures c.in_ok-judge_readings.was) in
    c.try_into.ensures.0 (frame_lent _ f.store_fits)

pub put_readings-requires : goal.put_readings-requires
put_readings-requires c =
    let f = readings_fit _ _ _ (fits_none _ _ c.judge_readings.ensures c.in_ok-judge_readings.was) in
    f.out_fits

pub returns : goal.returns
returns c =
    let h = MatchResult-at_ok _ _ _ c.unwrap-store.ensures c.try_into.ensures.1 in
    ap (exported 0 14351) (c.put_readings.ensures ∙ ap (λ (s : List ℕ). readings_of (byte_at s) c.args.state.taken ++ drop 14351 c.args.out.now) h.same)
    ∙ by_fits (readings_refuse _ _ _) _ c.judge_readings.ensures c.in_ok-judge_readings.was
