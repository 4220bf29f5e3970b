-- `sweeping::sweep` meets its contract: a line ends and there is room for its event, or no more are played. Assumes nothing.
use mathlib.Core.Path.{◌∙◌}
use native.Mathlib.Omega.{arith}
use Rattle.layout.specs.Layout.{decoded}
use Rattle.session.specs.Session.{world}
use Rattle.sweeping.proofs.Turns.{sweeps_none, sweeps_line}
use Rattle.sweeping.proofs.sweep.Goals as goal

pub loop-end-init : goal.loop-end-init
loop-end-init c = record { sweeps = sweeps_none _ _ _ _ _; ends = c.line_end-end.ensures; thirteen = c.requires.1; is_record = c.requires.0 }

pub loop-end-preserved : goal.loop-end-preserved
loop-end-preserved c =
    let a = c.args in
    let l = c.loop-end in
    let d = c.line_audited-at in
    let m = c.short_lines-next in record {
      sweeps = m.ensures.0.swept (world (decoded a.state.now) a.ram.now a.store.now a.image.now) a.book.now a.out.now (d.auto.out ∙ l.auto.out) (sweeps_line a.rom.now (world (decoded a.state.now) a.ram.now a.store.now a.image.now) a.book.now a.piece.now a.out.now (world (decoded l.state) l.ram l.store l.image) l.book l.out l.i l.at l.invariant.sweeps l.end l.invariant.ends (omega arith) (world (decoded d.new.state) d.new.ram d.new.store d.new.image) d.new.book d.new.out d.result d.ensures.0 (omega (arith, l.auto.out)));
      ends = c.line_end-end-in-loop-end.ensures;
      thirteen = m.auto.book ∙ d.auto.book ∙ l.invariant.thirteen;
      is_record = m.ensures.1;
    }
