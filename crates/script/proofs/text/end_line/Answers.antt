-- `script::text::end_line` meets its contract: 261 bytes of a line are enough to know what it does. Assumes nothing.
use mathlib.Core.Path.{sym, ap, ◌∙◌}
use native.Mathlib.Omega.{arith}
use lib.ListN.{take}
use lib.Seq.{length-take-le}
use Rattle.layout.specs.Layout.{decoded}
use Rattle.session.specs.Session.{world, step_of}
use Rattle.script.proofs.Feeds.{held_on_lem, printed_as}
use Rattle.script.proofs.Whole.{as_it_stands}
use Rattle.script.proofs.text.end_line.Goals as goal

pub returns-then-held-eq0 : goal.returns-then-held-eq0
returns-then-held-eq0 c =
    let a = c.args in
    let d = c.line_done.ensures in
    (printed_as (as_it_stands _ _ a.line.now a.rest.now a.held c.if-held-eq0.true) d.0, d.1)

pub slice_bounds-line_done-end-2 : goal.slice_bounds-line_done-end-2
slice_bounds-line_done-end-2 c =
    let h = c.hold-n in
    sym (length-take-le _ _ (omega (arith, h.ensures, h.auto.line, c.requires.1)))

pub returns : goal.returns
returns c =
    let s = c in
    let a = s.args in
    let h = c.hold-n in
    let d = c.line_done-2.ensures in (
      printed_as (ap (step_of a.rom.now (world (decoded a.state.now) a.ram.now a.store.now a.image.now)) (ap (take h.result) h.ensures.0 ∙ held_on_lem a.line.now a.held a.rest.now s.requires.1 s.requires.2 h.result h.ensures.1)) d.0,
      d.1,
    )
