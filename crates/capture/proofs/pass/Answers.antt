-- `capture::pass` meets its contract, by the laws on a number of cycles. Assumes nothing.
use native.Mathlib.Omega.{arith}
use Rattle.lighting.specs.Light.{byte_at}
use Rattle.capture.proofs.Passing.{going_passed, over_passed}
use Rattle.capture.proofs.pass.Goals as goal

pub returns-then-n-left : goal.returns-then-n-left
returns-then-n-left c k runs e q =
    let a = c.args in
    going_passed (byte_at a.store.now) k a.ram.now runs e q a.store.now a.n _ (omega (arith, c.total-all.ensures.0)) c.write_between.ensures

pub returns : goal.returns
returns c k runs e q =
    let a = c.args in
    over_passed (byte_at a.store.now) k a.ram.now runs e q a.store.now a.n _ _ c.requires.0 c.total-all.ensures.0 (omega arith) c.write_between-2.ensures
