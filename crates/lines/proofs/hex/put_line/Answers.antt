-- `lines::hex::put_line` meets its contract: number, value and LF are put one after another. Assumes nothing.
use Rattle.std.proofs.Common.{◌+◌, [], ◌∷◌, ap, ◌∙◌, arith, length-set}
use Rattle.lines.specs.Hex.{placed, hex_text}
use Rattle.lines.proofs.Placed.{placed_one, placed_printed}
use Rattle.lines.proofs.hex.put_line.Goals as goal

pub returns : goal.returns
returns c =
    let a = c.args in
    let one = c.put_digits in
    let two = c.put_digits-2 in
    let end = a.at + 2 + a.digits in (
      placed_one two.new.out end 10 (omega arith)
          ∙ ap (λ o. placed o end (10 ∷ [])) (two.ensures ∙ ap (λ o. placed o (a.at + 2) (hex_text a.digits a.value)) one.ensures)
          ∙ placed_printed a.out.now a.at a.number a.digits a.value (omega arith),
      omega arith,
    )

pub shape_of-out : goal.shape_of-out
shape_of-out c = simp length-set (c.put_digits-2.auto.out ∙ c.put_digits.auto.out)
