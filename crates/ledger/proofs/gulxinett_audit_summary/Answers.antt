-- `ledger::gulxinett_audit_summary` meets its contract: it is judged, and then the summary is said. Assumes nothing.
use mathlib.Core.Path.{refl, ap, ◌∙◌}
use Prim.Native.Nat.{◌%◌}
use native.Mathlib.Nat.{zero-add}
use native.Mathlib.Omega.{arith}
use Rattle.controller.proofs.Refusals.{by_why, by_fits, fits_none}
use Rattle.layout.specs.Layout.{decoded}
use Rattle.layout.proofs.Inverse.{record_parts}
use Rattle.answers.specs.Packed.{packed}
use Rattle.auditing.specs.Summary.{summary_of}
use Rattle.ledger.specs.Audits.{noting}
use Rattle.ledger.proofs.Audits.{room_sizes, summary_fits, summary_refuses, as_said}
use Rattle.ledger.proofs.gulxinett_audit_summary.Goals as goal

pub returns-in-Err : goal.returns-in-Err
returns-in-Err c =
    let a = c.args in
    ap (λ p. noting p a.book.now a.out.now) c.refused.ensures
    ∙ by_why (summary_refuses _ _ _) _ c.judge_summary.ensures _ c.in-Err.is

pub bounds-state-4 : goal.bounds-state-4
bounds-state-4 c =
    let f = summary_fits _ _ _ (fits_none _ _ c.judge_summary.ensures c.in_default.is) in omega (arith, (record_parts _ f.0).long)

pub summary_put-written-requires : goal.summary_put-written-requires
summary_put-written-requires c =
    let z = room_sizes _ _ (summary_fits _ _ _ (fits_none _ _ c.judge_summary.ensures c.in_default.is)).1 in (z.0, z.1)

pub bounds-book-0 : goal.bounds-book-0
bounds-book-0 c =
    let z = room_sizes _ _ (summary_fits _ _ _ (fits_none _ _ c.judge_summary.ensures c.in_default.is)).1 in omega (arith, z.0)

pub returns : goal.returns
unfolding decoded
returns c =
    let p = c.summary_put-written in
    let a = c.args in
    as_said _ _ _ a.book.now a.out.now _ (summary_of a.book.now (decoded a.state.now).held) _ 400 (c.pack.ensures ∙ ap (λ n. packed 0 (n % 4294967296)) (p.ensures.end ∙ zero-add _)) refl p.ensures
    ∙ by_fits (summary_refuses _ _ _) _ c.judge_summary.ensures c.in_default.is
