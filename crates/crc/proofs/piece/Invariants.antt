-- The invariants of `crc::piece`. Assumes nothing.
use mathlib.Core.Path.{◌≡◌}
use Prim.Native.Nat.{◌-◌, ◌*◌}
use lib.ListN.{drop, length}
use Rattle.crc.specs.Crc.{over}
use Rattle.crc.proofs.piece.Given as goal

abbrev pub invariant-loop-j : goal.invariant-loop-j
invariant-loop-j g l = l.after ≡ over 0 (drop (length l.s - 4 * l.j) l.s)
