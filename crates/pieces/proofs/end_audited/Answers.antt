-- `pieces::end_audited` meets its contract: the last line, and what is held after it. Assumes nothing.
use mathlib.Core.Path.{◌∙◌}
use Rattle.layout.specs.Layout.{decoded}
use Rattle.session.specs.Session.{world}
use Rattle.pieces.proofs.Pieces.{end_is, end_noted}
use Rattle.pieces.proofs.end_audited.Goals as goal

pub returns : goal.returns
returns c =
    let a = c.args in
    let d = c.last_audited-at in
    let h = c.held_put-end in
    let m = c.note in (
      end_is a.rom.now (world (decoded a.state.now) a.ram.now a.store.now a.image.now) (world (decoded d.new.state) d.new.ram d.new.store d.new.image) a.book.now a.line.now a.out.now d.new.book d.new.out h.new.out d.result h.result d.ensures.0 h.ensures m.new.book m.ensures,
      end_noted d.new.book m.new.book h.result (d.auto.book ∙ c.requires.1) m.ensures,
      d.ensures.1,
    )
