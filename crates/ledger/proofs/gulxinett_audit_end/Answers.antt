-- `ledger::gulxinett_audit_end` meets its contract: it is judged, and then the recording is ended. Assumes nothing.
use mathlib.Core.Path.{ap, ◌∙◌}
use borrow.Author.Rules.{rules}
use Rattle.controller.proofs.Refusals.{by_why, fits_none}
use Rattle.ledger.specs.Audits.{auditing}
use Rattle.ledger.proofs.Audits.{fits_sizes, audit_fits, end_refuses, end_done}
use Rattle.ledger.proofs.gulxinett_audit_end.Goals as goal

pub returns-in-Err : goal.returns-in-Err
returns-in-Err c =
    let a = c.args in
    ap (λ p. auditing p a.state.now a.ram.now a.store.now a.image.now a.book.now a.line.now a.out.now) c.refused.ensures
    ∙ by_why (end_refuses _ _ _ _ _ _ _ _) _ c.judge_audit.ensures _ c.in-Err.is

pub end_audited-written-requires : goal.end_audited-written-requires
end_audited-written-requires c =
    let f = audit_fits _ _ _ _ (fits_none _ _ c.judge_audit.ensures c.in_default.is) in
    let z = fits_sizes _ _ _ f.1 in
    (f.0, z.0, z.1, z.2)

pub returns : goal.returns
returns c =
    let p = c.end_audited-written in
    let a = c.args in
    end_done a.state.now a.rom.now a.ram.now a.store.now a.image.now a.book.now a.line.now a.out.now
    p.new.state p.new.ram p.new.store p.new.image p.new.book a.line.now p.new.out
    (λ i. search rules) p.ensures.2 c.judge_audit.result c.judge_audit.ensures c.in_default.is
    p.result c.pack.result p.ensures.0 p.ensures.1 c.pack.ensures
