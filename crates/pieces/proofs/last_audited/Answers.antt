-- `pieces::last_audited` meets its contract: whether a line has begun. Assumes nothing.
use mathlib.Core.Path.{sym, ◌∙◌}
use Rattle.layout.specs.Layout.{decoded}
use Rattle.session.specs.Session.{world}
use Rattle.pieces.proofs.Pieces.{last_none, last_some}
use Rattle.pieces.proofs.last_audited.Goals as goal

pub returns-then-held-eq0 : goal.returns-then-held-eq0
returns-then-held-eq0 c = (last_none _ _ _ _ _ (sym c.held_in-held.ensures.0 ∙ c.if-held-eq0.true), c.requires.0)

pub returns : goal.returns
returns c =
    let a = c.args in
    let o = c.held_in-held in
    let d = c.line_audited in
    (last_some a.rom.now (world (decoded a.state.now) a.ram.now a.store.now a.image.now) (world (decoded d.new.state) d.new.ram d.new.store d.new.image) a.book.now a.line.now a.out.now d.new.book d.new.out o.result d.result o.ensures.0 c.if-held-eq0.false d.ensures.0, d.ensures.1)
