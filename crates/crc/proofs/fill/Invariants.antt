-- The invariants of `crc::fill`. Assumes nothing.
use Prim.Native.Nat.{◌*◌}
use Rattle.crc.specs.Aside.{Bits, First}
use Rattle.crc.proofs.fill.Given as goal

abbrev pub invariant-loop-table : goal.invariant-loop-table
invariant-loop-table l = Bits (8 * l.table-index) l.bits × First l.table-index l.t
