-- `script::text::hold` meets its contract: the invariant is the line with the bytes so far put after those that were held. Assumes nothing.
use Rattle.std.proofs.Common.{◌≡◌, ◌+◌, ◌-◌, get_or, take, set, sym, ap, ◌∙◌, arith, length-take, length-set}
use Rattle.lines.specs.Hex.{placed}
use Rattle.lines.proofs.Placed.{placed_none, placed_byte_lem}
use Rattle.script.proofs.Feeds.{few_taken}
use Rattle.script.proofs.text.hold.Goals as goal

pub loop-i-init : goal.loop-i-init
loop-i-init c = (omega arith, c.requires.0, sym (placed_none _ _))

pub loop-i-preserved : goal.loop-i-preserved
loop-i-preserved c =
    let a = c.args in
    let l = c.loop-i in (
      omega arith,
      length-set l.line (a.held + l.i) _ ∙ l.invariant.1,
      ap (λ x. set x (a.held + l.i) (get_or a.bytes.now l.i 0)) l.invariant.2 ∙ placed_byte_lem a.line.now a.held a.bytes.now l.i (omega arith) (omega arith),
    )

pub returns : goal.returns
returns c =
    let a = c.args in
    let n = c.min-n.result in
    let l = c.loop-i in
    let e : l.i ≡ n = omega arith in (
      l.invariant.2 ∙ ap (λ k. placed a.line.now a.held (take k a.bytes.now)) e ∙ ap (placed a.line.now a.held) (few_taken (261 - a.held) a.bytes.now n c.min-n.ensures),
      omega (arith, length-take (261 - a.held) a.bytes.now),
      omega arith,
    )
