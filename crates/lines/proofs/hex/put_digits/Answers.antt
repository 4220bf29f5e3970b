-- `lines::hex::put_digits` meets its contract: the invariant is that the digits left, put into the buffer as it is, make the whole. Assumes nothing.
use Rattle.std.proofs.Common.{◌≡◌, ◌+◌, ◌-◌, ◌/◌, set, sym, ap, ◌∙◌, arith}
use Rattle.lines.specs.Hex.{placed, hex_text}
use Rattle.lines.proofs.Placed.{placed_none, placed_digit}
use Rattle.lines.proofs.hex.put_digits.Goals as goal

pub loop-k-preserved : goal.loop-k-preserved
loop-k-preserved c =
    let a = c.args in
    let l = c.loop-k in
    let e : l.k - 1 + 1 ≡ l.k = omega arith in
    ap (λ x. placed (set l.out (a.at + (l.k - 1)) x) a.at (hex_text (l.k - 1) (l.v / 16))) c.digit_byte.ensures
    ∙ sym (placed_digit l.out a.at (l.k - 1) l.v (omega arith))
    ∙ ap (λ k. placed l.out a.at (hex_text k l.v)) e
    ∙ l.invariant

pub returns : goal.returns
unfolding hex_text
returns c =
    let a = c.args in
    let l = c.loop-k in
    let e : 0 ≡ l.k = omega arith in
    sym (placed_none l.out a.at) ∙ ap (λ k. placed l.out a.at (hex_text k l.v)) e ∙ l.invariant
