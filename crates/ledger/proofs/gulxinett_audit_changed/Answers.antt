-- `ledger::gulxinett_audit_changed` meets its contract: it is judged, and then the first stretch is said. Assumes nothing.
use mathlib.Core.Path.{ap, ◌∙◌}
use Prim.Native.Nat.{◌%◌}
use native.Mathlib.Omega.{arith}
use Rattle.controller.proofs.Refusals.{by_why, by_fits, fits_none}
use Rattle.answers.specs.Packed.{packed}
use Rattle.events.specs.Book.{noted, lines}
use Rattle.changes.specs.Changes.{ends, change_text}
use Rattle.ledger.specs.Audits.{noting}
use Rattle.ledger.proofs.Audits.{room_sizes, same_sizes, changed_fits, changed_refuses, as_said}
use Rattle.ledger.proofs.gulxinett_audit_changed.Goals as goal

pub returns-in-Err : goal.returns-in-Err
returns-in-Err c =
    let a = c.args in
    ap (λ p. noting p a.book.now a.out.now) c.refused.ensures
    ∙ by_why (changed_refuses _ _ _ a.from _) _ c.judge_changed.ensures _ c.in-Err.is

pub bounds-book-2 : goal.bounds-book-2
bounds-book-2 c =
    let z = room_sizes _ _ (changed_fits _ _ _ _ (fits_none _ _ c.judge_changed.ensures c.in_default.is)).1 in omega (arith, z.0)

pub change_put-change-requires : goal.change_put-change-requires
change_put-change-requires c =
    let f = changed_fits _ _ _ _ (fits_none _ _ c.judge_changed.ensures c.in_default.is) in
    let z = room_sizes _ _ f.1 in
    let y = same_sizes _ _ f.0 in
    (omega (arith, z.1), y.0, y.1, c.place_in.ensures.1)

pub bounds-book-0 : goal.bounds-book-0
bounds-book-0 c =
    let z = room_sizes _ _ (changed_fits _ _ _ _ (fits_none _ _ c.judge_changed.ensures c.in_default.is)).1 in omega (arith, z.0)

pub returns : goal.returns
returns c =
    let p = c.change_put-change in
    let k = c.place_in in
    let a = c.args in
    as_said _ _ _ a.book.now a.out.now _ _ _ 256 (c.pack.ensures ∙ ap (λ n. packed 0 (n % 4294967296)) (p.ensures.next_value ∙ ap (λ n. ends a.first.now a.ram.now n) k.ensures.0))
    (ap (λ n. change_text (noted a.book.now lines) a.first.now a.ram.now n) k.ensures.0) p.ensures.put
    ∙ by_fits (changed_refuses _ _ _ a.from _) _ c.judge_changed.ensures c.in_default.is
