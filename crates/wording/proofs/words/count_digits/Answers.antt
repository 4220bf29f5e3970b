-- `wording::words::count_digits` meets its contract: the invariant is that those counted and those of what is left are all. Assumes nothing.
use mathlib.Core.Path.{◌≡◌, ap}
use Prim.Native.Nat.{◌+◌, ◌-◌, ◌/◌}
use native.Mathlib.Omega.{arith}
use Rattle.wording.specs.Aside.{count_in}
use Rattle.wording.proofs.Puts.{count_next}
use Rattle.wording.proofs.words.count_digits.Goals as goal

pub loop-n-preserved : goal.loop-n-preserved
loop-n-preserved c =
    let a = c.args in
    let l = c.loop-n in
    let e : a.most - l.n - 1 ≡ a.most - (l.n + 1) = omega arith in
    (omega arith, omega (arith, count_next (a.most - l.n) l.rest (omega arith) (omega arith), ap (λ k. count_in k (l.rest / 10)) e, l.invariant.1))
