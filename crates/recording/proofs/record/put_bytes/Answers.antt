-- `recording::record::put_bytes` meets its contract: the invariant is the buffer with the digits of the bytes so far. Assumes nothing.
use mathlib.Core.Path.{refl, sym, ap, ◌∙◌}
use Prim.Native.Nat.{◌+◌, ◌*◌}
use native.Mathlib.Omega.{arith}
use lib.ListN.{set, length-set}
use lib.Seq.{take_all}
use Rattle.lines.specs.Hex.{placed}
use Rattle.recording.specs.Record.{row_hex}
use Rattle.lines.proofs.Placed.{placed_none}
use Rattle.recording.proofs.Written.{row_stored}
use Rattle.recording.proofs.record.put_bytes.Goals as goal

pub loop-i-init : goal.loop-i-init
unfolding row_hex
loop-i-init c = (refl, sym (placed_none _ _))

pub loop-i-preserved : goal.loop-i-preserved
loop-i-preserved c =
    let a = c.args in
    let l = c.loop-i in
    let k = a.at + 2 * l.i in
    let small = c.type_inv.bytes l.i in (
      simp length-set l.invariant.0,
      (λ j. set (set (l.invariant.1 j) k (c.digit_byte.ensures j)) (k + 1) (c.digit_byte-in-loop-i.ensures j))
          ∙ row_stored a.out.now a.at a.bytes.now l.i (omega arith) (omega (arith, small)) (omega arith),
    )

pub returns : goal.returns
returns c =
    let a = c.args in
    let l = c.loop-i in
    l.invariant.1 ∙ ap (λ t. placed a.out.now a.at (row_hex t)) (take_all l.i a.bytes.now (omega arith))
