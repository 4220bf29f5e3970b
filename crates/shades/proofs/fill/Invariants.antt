-- The invariants of `shades::fill`. Assumes nothing.
use Prim.Native.Nat.{◌^◌}
use Rattle.shades.specs.Aside.{Built}
use Rattle.shades.proofs.fill.Given as goal

abbrev pub invariant-loop-k : goal.invariant-loop-k
invariant-loop-k l = Built l.step (2 ^ l.k) l.t
