-- `session::session::take_row` meets its contract: the invariant is the image with the bytes of the row taken so far. Assumes nothing.
use Rattle.std.proofs.Common.{◌≡◌, ◌+◌, ◌*◌, set, sym, refl, ap, ◌∙◌, arith}
use Rattle.lines.specs.Line.{number_at}
use Rattle.session.specs.Session.{row_taken}
use Rattle.lines.proofs.Digits.{hex_within}
use Rattle.session.proofs.Steps.{row_more}
use Rattle.session.proofs.session.take_row.Goals as goal

pub loop-i-init : goal.loop-i-init
unfolding row_taken
loop-i-init c = refl

pub byte_at-requires : goal.byte_at-requires
byte_at-requires c =
    let i = c.loop-i.i in
    (omega arith, hex_within c.args.line.now 260 (4 + 2 * i) 2 c.requires.1 (omega arith))

pub loop-i-preserved : goal.loop-i-preserved
loop-i-preserved c =
    let a = c.args in
    let l = c.loop-i in
    ap (λ x. set l.image (128 * a.y + l.i) x) c.byte_at.ensures
    ∙ ap (λ m. set m (128 * a.y + l.i) (number_at a.line.now (4 + 2 * l.i) 2)) l.invariant
    ∙ sym (row_more a.line.now a.y l.i a.image.now)

pub returns : goal.returns
returns c =
    let a = c.args in
    let l = c.loop-i in
    let e : l.i ≡ 128 = omega arith in
    l.invariant ∙ ap (λ i. row_taken a.line.now a.y i a.image.now) e
