-- `embed::gulxinett_tick` meets its contract: bytes that are no record, or what a tick that is judged answers and leaves. Assumes nothing.
use mathlib.Core.Path.{sym, ap, ◌∙◌}
use borrow.Author.Rules.{rules}
use Rattle.std.proofs.lemmas.Result.{MatchResult-at_ok}
use Rattle.answers.specs.Called.{called}
use Rattle.calls.proofs.Ticking.{tick_refused, tick_idle, tick_runs, tick_ran}
use Rattle.embed.proofs.Cases.{as_called, tick_unread, tick_done}
use Rattle.embed.proofs.gulxinett_tick.Goals as goal

pub returns-then-not-is_record : goal.returns-then-not-is_record
returns-then-not-is_record c =
    let a = c.args in
    ap (λ p. called p a.state.now a.ram.now a.store.now) c.refused.ensures
    ∙ sym (tick_unread _ _ _ _ (sym c.is_record.ensures ∙ c.if-not-is_record.true))

pub returns-in-Err : goal.returns-in-Err
returns-in-Err c =
    let a = c.args in
    let is = sym c.is_record.ensures ∙ c.if-not-is_record.false in
    as_called
    (tick_refused a.state.now a.ram.now a.store.now a.cycles is c.judge_tick.result c.judge_tick.ensures (λ k. search rules) _ c.in-Err.is)
    c.refused-in-Err.ensures
    (tick_done a.state.now a.ram.now a.store.now a.cycles is)

pub returns-then-not-runs : goal.returns-then-not-runs
returns-then-not-runs c =
    let a = c.args in
    let is = sym c.is_record.ensures ∙ c.if-not-is_record.false in
    as_called
    (tick_idle a.state.now a.ram.now a.store.now a.cycles is c.judge_tick.result c.judge_tick.ensures (λ k. search rules) c.in_default.is
    (sym c.runs.ensures ∙ c.if-not-runs.true))
    c.pack.ensures
    (tick_done a.state.now a.ram.now a.store.now a.cycles is)

pub unwrap-store-requires : goal.unwrap-store-requires
unwrap-store-requires c =
    let a = c.args in
    let t = tick_runs a.state.now a.ram.now a.store.now a.cycles (sym c.is_record.ensures ∙ c.if-not-is_record.false) c.judge_tick.result c.judge_tick.ensures c.in_default.is
    (sym c.runs.ensures ∙ c.if-not-runs.false) in
    c.try_into.ensures.0 t.4

pub run-requires : goal.run-requires
run-requires c =
    let a = c.args in
    let t = tick_runs a.state.now a.ram.now a.store.now a.cycles (sym c.is_record.ensures ∙ c.if-not-is_record.false) c.judge_tick.result c.judge_tick.ensures c.in_default.is
    (sym c.runs.ensures ∙ c.if-not-runs.false) in
    (t.0, t.1, t.2, t.3)

pub returns : goal.returns
returns c =
    let a = c.args in
    let is = sym c.is_record.ensures ∙ c.if-not-is_record.false in
    let h = MatchResult-at_ok _ _ _ c.unwrap-store.ensures c.try_into.ensures.1 in
    as_called
    (rw h.same at c.run.ensures ∙ tick_ran a.state.now a.ram.now a.store.now a.cycles is c.judge_tick.result c.judge_tick.ensures c.in_default.is)
    c.pack-2.ensures
    (tick_done a.state.now a.ram.now a.store.now a.cycles is)

pub judge_tick-requires : goal.judge_tick-requires
judge_tick-requires c = sym c.is_record.ensures ∙ c.if-not-is_record.false

pub runs-requires : goal.runs-requires
runs-requires c = sym c.is_record.ensures ∙ c.if-not-is_record.false
