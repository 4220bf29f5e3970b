-- `session::session::do_row` meets its contract: the image's length decides. Assumes nothing.
use mathlib.Core.Path.{◌≡◌, sym, ◌∙◌}
use native.Mathlib.Omega.{arith}
use lib.ListN.{length}
use borrow.Author.Tests.{eq-eqb, ne_eqb}
use Rattle.session.specs.Session.{row_image, row_text}
use Rattle.lines.proofs.Frames.{row_facts}
use Rattle.session.proofs.session.do_row.Goals as goal

pub returns-then-image-ne-FRAME : goal.returns-then-image-ne-FRAME
unfolding row_image row_text
returns-then-image-ne-FRAME c =
    let t = ne_eqb _ _ c.if-image-ne-FRAME.true in
    (simp t, c.refused.ensures.0 ∙ sym (simp t), c.refused.ensures.1)

pub take_row-requires : goal.take_row-requires
take_row-requires c =
    let s = c in
    let f = row_facts s.args.line.now s.args.y s.requires in
    (f.0, f.1, omega (arith, f.2))

pub returns : goal.returns
unfolding row_image row_text
returns c =
    let s = c in
    let e : length s.args.image.now ≡ 16384 = omega arith in
    let t = eq-eqb _ _ e in
    (c.take_row.ensures ∙ sym (simp t), c.done.ensures.0 ∙ sym (simp t), c.done.ensures.1)
