-- `capture::tick` meets its contract: it is judged, and then done. Assumes nothing.
use Rattle.std.proofs.Common.{sym, ap, ◌∙◌}
use Rattle.std.proofs.lemmas.Result.{MatchResult-at_ok}
use Rattle.laws.proofs.Bools.{both_left}
use Rattle.lighting.specs.Light.{byte_at}
use Rattle.capture.specs.Calls.{ticked}
use Rattle.timing.proofs.Lent.{ram_lent, frame_lent}
use Rattle.controller.proofs.Exists.{before_total}
use Rattle.capture.proofs.Refusals.{tick_refuses, tick_fits}
use Rattle.controller.proofs.Refusals.{by_why, by_fits, fits_none}
use Rattle.capture.proofs.Ticks.{idle}
use Rattle.capture.proofs.tick.Goals as goal

pub returns-in-Err : goal.returns-in-Err
returns-in-Err c = by_why (tick_refuses _ _ _ _) _ c.judge_tick.ensures _ c.in-Err.is

-- past the judging

pub returns-then-not-is_running : goal.returns-then-not-is_running
returns-then-not-is_running c =
    let a = c.args in
    c.ran.ensures _ _
    ∙ ap (ticked a.store.now) (sym (idle (byte_at a.store.now) _ a.n (sym c.is_running.ensures ∙ c.if-not-is_running.true)))
    ∙ by_fits (tick_refuses _ _ _ a.n) _ c.judge_tick.ensures c.in_default.is

pub unwrap-store-requires : goal.unwrap-store-requires
unwrap-store-requires c =
    let fits = tick_fits _ _ _ (fits_none _ _ c.judge_tick.ensures c.in_default.is) in
    c.try_into.ensures.0 (frame_lent _ fits.store_fits)

pub run-requires : goal.run-requires
run-requires c =
    let state = c.args.state in
    let fits = tick_fits _ _ _ (fits_none _ _ c.judge_tick.ensures c.in_default.is) in
    let runs = sym c.is_running.ensures ∙ c.if-not-is_running.false in
    (runs, before_total state fits.exists (both_left state.held _ runs), (ram_lent _ fits.ram_fits).least)

pub returns : goal.returns
returns c =
    let h = MatchResult-at_ok _ _ _ c.unwrap-store.ensures c.try_into.ensures.1 in
    rw h.same at c.run.ensures ∙ by_fits (tick_refuses _ _ _ c.args.n) _ c.judge_tick.ensures c.in_default.is
