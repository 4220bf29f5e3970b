-- The invariants of `shades::put_tones`. Assumes nothing.
use Prim.Native.Nat.{◌+◌, ◌*◌, ◌≤◌}
use Rattle.laws.proofs.Filled.{Filled}
use Rattle.shades.specs.Aside.{tone_nth}
use Rattle.shades.proofs.put_tones.Given as goal

abbrev pub invariant-loop-x : goal.invariant-loop-x
invariant-loop-x l = (l.x ≤ 8) × Filled (tone_nth l.step (2 * l.step) l.negative l.ram) 14336 (128 * l.y + 16 * l.x) l.pixels

abbrev pub invariant-loop-y : goal.invariant-loop-y
invariant-loop-y l = (l.y ≤ 112) × Filled (tone_nth l.step (2 * l.step) l.negative l.ram) 14336 (128 * l.y) l.pixels
