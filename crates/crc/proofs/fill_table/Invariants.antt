-- The invariants of `crc::fill_table`. Assumes nothing.
use mathlib.Core.Path.{◌≡◌}
use Prim.Native.Nat.{ℕ, ◌+◌, ◌*◌, ◌^◌, ◌≤◌}
use lib.ListN.{length}
use Rattle.crc.specs.Aside.{Bits, Built}
use Rattle.crc.proofs.fill_table.Given as goal

abbrev pub invariant-loop-x : goal.invariant-loop-x
invariant-loop-x l = (l.x-index ≤ 8) × (l.w ≡ 2 ^ l.x-index) × (length l.t ≡ 256) × ((k : ℕ) → Bits (8 + 8 * k) l.bits → Built k l.w l.t)

abbrev pub invariant-loop-b : goal.invariant-loop-b
invariant-loop-b l = (l.b ≤ l.w) × (length l.t ≡ 256) × ((k : ℕ) → Bits (8 + 8 * k) l.bits → Built k (l.w + l.b) l.t)
