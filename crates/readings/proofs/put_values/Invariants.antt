-- The invariants of `readings::put_values`. Assumes nothing.
use Prim.Native.Nat.{◌+◌, ◌*◌, ◌/◌, ◌%◌, ◌≤◌}
use Rattle.laws.proofs.Filled.{Filled}
use Rattle.lighting.specs.Light.{byte_at}
use Rattle.sensor.specs.Shade.{value_at}
use Rattle.rows.specs.Aside.{Carried}
use Rattle.readings.proofs.put_values.Given as goal

abbrev pub invariant-loop-y : goal.invariant-loop-y
invariant-loop-y l =
    (l.y ≤ 112)
    × Carried (byte_at l.store) l.set (l.y + 8) l.carried
    × Filled (λ k. value_at (byte_at l.store) l.set (k % 128) (k / 128 + 8)) 14336 (128 * l.y) l.values
