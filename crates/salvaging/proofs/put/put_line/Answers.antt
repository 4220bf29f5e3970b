-- `salvaging::put::put_line` meets its contract: the invariant is the buffer with the bytes of the line so far. Assumes nothing.
use Rattle.std.proofs.Common.{◌+◌, length, get_or, take, set, refl, sym, ap, ◌∙◌, arith, length-set, length-take-le}
use lib.Seq.{take_all}
use Rattle.lines.specs.Hex.{placed}
use Rattle.lines.proofs.Placed.{placed_none, placed_byte_lem}
use Rattle.recording.specs.Record.{ended}
use Rattle.salvaging.proofs.Puts.{stored}
use Rattle.salvaging.proofs.put.put_line.Goals as goal

pub loop-i-init : goal.loop-i-init
loop-i-init c = (omega arith, refl, sym (placed_none _ _))

pub loop-i-preserved : goal.loop-i-preserved
loop-i-preserved c =
    let a = c.args in
    let l = c.loop-i in (
      omega arith,
      simp length-set l.invariant.1,
      ap (λ t. set t (a.at + l.i) (get_or a.line.now l.i 0)) l.invariant.2 ∙ placed_byte_lem a.text.now a.at a.line.now l.i (omega arith) (omega arith),
    )

pub returns : goal.returns
returns c =
    let a = c.args in
    let l = c.loop-i in
    let n = length-take-le l.i a.line.now (omega arith) in
    ap (λ t. set t (a.at + length a.line.now) 0x0A) l.invariant.2
    ∙ stored a.text.now a.at (take l.i a.line.now) 0x0A (a.at + length a.line.now) (omega (arith, n)) (omega (arith, n))
    ∙ ap (λ t. placed a.text.now a.at (ended t)) (take_all l.i a.line.now (omega arith))
