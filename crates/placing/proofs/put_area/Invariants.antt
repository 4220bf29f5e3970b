-- The invariants of `placing::put_area`. Assumes nothing.
use Prim.Native.Nat.{◌+◌, ◌*◌, ◌≤◌}
use Rattle.placing.specs.Placing.{placed_byte}
use Rattle.placing.proofs.Shown.{Shown}
use Rattle.placing.proofs.put_area.Given as goal

abbrev pub invariant-loop-t : goal.invariant-loop-t
invariant-loop-t l = (l.t ≤ 16) × Shown (placed_byte l.pixels) (16 * l.y + l.t) l.area

abbrev pub invariant-loop-y : goal.invariant-loop-y
invariant-loop-y l = (l.y ≤ 112) × Shown (placed_byte l.pixels) (16 * l.y) l.area
