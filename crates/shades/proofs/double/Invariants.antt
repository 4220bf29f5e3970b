-- The invariants of `shades::double`. Assumes nothing.
use Prim.Native.Nat.{◌+◌, ◌≤◌}
use Rattle.shades.specs.Aside.{Built}
use Rattle.shades.proofs.double.Given as goal

abbrev pub invariant-loop-b : goal.invariant-loop-b
invariant-loop-b l = (l.b ≤ l.w) × Built l.step (l.w + l.b) l.t
