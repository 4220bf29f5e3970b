-- `shades::double` meets its contract: the invariant, that the bytes before w + b are made. Assumes nothing.
use Prim.Native.Nat.{◌+◌}
use native.Mathlib.Omega.{arith}
use Rattle.shades.proofs.Tones.{entry_fits, weight_fits, entry_sum, built_more, built_to}
use Rattle.shades.proofs.double.Goals as goal

pub overflow_mul-add : goal.overflow_mul-add
overflow_mul-add c = omega (arith, weight_fits c.args.step c.args.w c.args.bit c.requires.1 c.requires.2)

pub overflow_add-t : goal.overflow_add-t
overflow_add-t c =
    let l = c.loop-b in
    let a = c.args in
    omega (arith, entry_sum a.step a.w a.bit l.b _ c.requires.2 (omega arith) (l.invariant.1.same l.b (omega arith)), entry_fits a.step (a.w + l.b) c.requires.1)

pub loop-b-preserved : goal.loop-b-preserved
loop-b-preserved c =
    let l = c.loop-b in
    let a = c.args in
    (omega arith, built_to (built_more _ l.invariant.1 (omega arith) (entry_sum a.step a.w a.bit l.b _ c.requires.2 (omega arith) (l.invariant.1.same l.b (omega arith)))) (omega arith))

pub returns : goal.returns
returns c = built_to c.loop-b.invariant.1 (omega arith)
