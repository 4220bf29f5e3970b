-- The invariants of `judging::same_row`. Assumes nothing.
use mathlib.Core.Path.{◌≡◌}
use mathlib.Core.Bool.{true}
use Prim.Native.Nat.{◌*◌, ◌≤◌}
use Rattle.placing.specs.Placing.{each}
use Rattle.judging.proofs.Same.{same_byte}
use Rattle.judging.proofs.same_row.Given as goal

abbrev pub invariant-loop-t : goal.invariant-loop-t
invariant-loop-t l = (l.t ≤ 16) × (each (same_byte l.plate l.picture l.y) (2 * l.t) ≡ true)
