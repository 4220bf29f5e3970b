-- The invariants of `matrix::first_reversed`. Assumes nothing.
use Prim.Native.Nat.{◌+◌, ◌-◌, ◌*◌, ◌<◌, ◌≤◌}
use mathlib.Core.Path.{◌≡◌}
use Rattle.matrix.specs.Matrix.{first_in}
use Rattle.matrix.proofs.first_reversed.Given as goal

abbrev pub invariant-loop-column : goal.invariant-loop-column
invariant-loop-column l = (l.row < 4) × (l.column ≤ 4) × (l.first ≡ 16) × (first_in l.regs 0 16 ≡ first_in l.regs (4 * l.row + l.column) (16 - (4 * l.row + l.column)))

abbrev pub decreases-loop-column : goal.decreases-loop-column
decreases-loop-column l = 4 - l.column

abbrev pub invariant-rows : goal.invariant-rows
invariant-rows l = (l.row ≤ 4) × (l.first ≡ 16) × (first_in l.regs 0 16 ≡ first_in l.regs (4 * l.row) (16 - 4 * l.row))

abbrev pub decreases-rows : goal.decreases-rows
decreases-rows l = 4 - l.row
