-- `ledger::gulxinett_audit` meets its contract: it is judged, and then the piece is read. Assumes nothing.
use mathlib.Core.Path.{sym, ap, ◌∙◌}
use lib.ListN.{take}
use lib.Seq.{length-take-le}
use borrow.Author.Rules.{rules}
use Rattle.controller.proofs.Refusals.{by_why, fits_none}
use Rattle.layout.specs.Layout.{decoded}
use Rattle.session.specs.Session.{world}
use Rattle.ledger.specs.Audits.{auditing}
use Rattle.ledger.proofs.Audits.{fits_sizes, audit_fits, audit_small, audit_refuses, audit_done}
use Rattle.ledger.proofs.gulxinett_audit.Goals as goal

pub returns-in-Err : goal.returns-in-Err
returns-in-Err c =
    let a = c.args in
    ap (λ p. auditing p a.state.now a.ram.now a.store.now a.image.now a.book.now a.line.now a.out.now) c.refused.ensures
    ∙ by_why (audit_refuses _ _ _ _ _ _ _ _ _) _ c.judge_audit.ensures _ c.in-Err.is

pub piece_audited-used-requires : goal.piece_audited-used-requires
piece_audited-used-requires c =
    let f = audit_fits _ _ _ _ (fits_none _ _ c.judge_audit.ensures c.in_default.is) in
    let z = fits_sizes _ _ _ f.1 in
    (f.0, z.0, z.1, z.2)

pub overflow_cast-used : goal.overflow_cast-used
overflow_cast-used c =
    let p = c.piece_audited-used in
    let k = c.countable-n in
    let a = c.args in
    record {
      fits = audit_small p.new.state p.new.ram p.new.store p.new.image p.new.book p.new.line p.new.out p.result
          a.rom.now (world (decoded a.state.now) a.ram.now a.store.now a.image.now) a.book.now a.line.now a.out.now (take k.result a.piece.now) a.piece.now p.ensures.0 k.ensures.0;
    }

pub returns : goal.returns
returns c =
    let p = c.piece_audited-used in
    let k = c.countable-n in
    let a = c.args in
    audit_done a.state.now a.rom.now a.ram.now a.store.now a.image.now a.book.now a.line.now a.out.now
    p.new.state p.new.ram p.new.store p.new.image p.new.book p.new.line p.new.out
    (λ i. search rules) p.ensures.1 c.judge_audit.result c.judge_audit.ensures c.in_default.is
    (take k.result a.piece.now) a.piece.now p.result c.pack.result p.ensures.0 k.ensures.0 c.pack.ensures

pub slice_bounds-piece_audited-end : goal.slice_bounds-piece_audited-end
slice_bounds-piece_audited-end c = sym (length-take-le _ _ c.countable-n.ensures.1)
