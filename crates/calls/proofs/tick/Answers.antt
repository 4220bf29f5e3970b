-- `calls::tick` meets its contract: it is judged, and then done. Assumes nothing.
use borrow.Author.Rules.{rules}
use mathlib.Core.Path.{sym, ◌∙◌}
use Rattle.std.proofs.lemmas.Result.{err_from_is_err_and, MatchResult-at_ok}
use Rattle.calls.proofs.Ticking.{tick_refused, tick_idle, tick_runs, tick_ran}
use Rattle.calls.proofs.tick.Goals as goal

pub returns-in_err-judge_tick : goal.returns-in_err-judge_tick
returns-in_err-judge_tick c =
    let a = c.args in
    let p = err_from_is_err_and c.from_residual.result c.from_residual.ensures.1 in
    rw (p.1, p.2) (tick_refused a.state.now a.ram.now a.store.now a.n c.requires c.judge_tick.result c.judge_tick.ensures (λ k. search rules) _ c.in_err-judge_tick.was)

pub returns-then-not-runs : goal.returns-then-not-runs
returns-then-not-runs c =
    let a = c.args in
    tick_idle a.state.now a.ram.now a.store.now a.n c.requires c.judge_tick.result c.judge_tick.ensures (λ k. search rules) c.in_ok-judge_tick.was
    (sym c.runs.ensures ∙ c.if-not-runs.true)

pub unwrap-store-requires : goal.unwrap-store-requires
unwrap-store-requires c =
    let a = c.args in
    let t = tick_runs a.state.now a.ram.now a.store.now a.n c.requires c.judge_tick.result c.judge_tick.ensures c.in_ok-judge_tick.was (sym c.runs.ensures ∙ c.if-not-runs.false) in
    c.try_into.ensures.0 t.4

pub run-requires : goal.run-requires
run-requires c =
    let a = c.args in
    let t = tick_runs a.state.now a.ram.now a.store.now a.n c.requires c.judge_tick.result c.judge_tick.ensures c.in_ok-judge_tick.was (sym c.runs.ensures ∙ c.if-not-runs.false) in
    (t.0, t.1, t.2, t.3)

pub returns : goal.returns
returns c =
    let a = c.args in
    let h = MatchResult-at_ok _ _ _ c.unwrap-store.ensures c.try_into.ensures.1 in
    rw h.same at c.run.ensures ∙ tick_ran a.state.now a.ram.now a.store.now a.n c.requires c.judge_tick.result c.judge_tick.ensures c.in_ok-judge_tick.was
