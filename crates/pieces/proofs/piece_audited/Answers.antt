-- `pieces::piece_audited` meets its contract: a line ends in the piece or is held. Assumes nothing.
use native.Mathlib.Omega.{arith}
use Rattle.layout.specs.Layout.{decoded}
use Rattle.session.specs.Session.{world}
use Rattle.pieces.proofs.Pieces.{piece_ended, piece_kept}
use Rattle.pieces.proofs.piece_audited.Goals as goal

pub returns-then-end-piece : goal.returns-then-end-piece
returns-then-end-piece c =
    let a = c.args in
    let l = c.line_end-end in
    let o = c.held_in-held in
    let h = c.hold-n in
    let d = c.line_audited-at in
    let m = c.note in (
      piece_ended a.rom.now (world (decoded a.state.now) a.ram.now a.store.now a.image.now) a.book.now a.line.now a.out.now a.piece.now l.result o.result h.result h.new.line l.ensures o.ensures.0 h.ensures.0 h.ensures.1 c.if-end-piece.true
          (world (decoded d.new.state) d.new.ram d.new.store d.new.image) d.new.book d.new.out d.result d.ensures.0 m.new.book m.ensures,
      d.ensures.1,
    )

pub returns : goal.returns
returns c =
    let a = c.args in
    let l = c.line_end-end in
    let o = c.held_in-held in
    let h = c.hold-n in
    let m = c.note-2 in (
      piece_kept a.rom.now (world (decoded a.state.now) a.ram.now a.store.now a.image.now) a.book.now a.line.now a.out.now a.piece.now l.result o.result h.result h.new.line l.ensures o.ensures.0 h.ensures.0 h.ensures.1 (omega (arith, c.if-end-piece.false))
          m.new.book m.ensures,
      c.requires.0,
    )
