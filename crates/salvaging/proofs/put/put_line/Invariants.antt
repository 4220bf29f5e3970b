-- The invariants of `salvaging::put::put_line`. Assumes nothing.
use mathlib.Core.Path.{◌≡◌}
use Prim.Native.Nat.{◌≤◌}
use lib.ListN.{length, take}
use Rattle.lines.specs.Hex.{placed}
use Rattle.salvaging.proofs.put.put_line.Given as goal

abbrev pub invariant-loop-i : goal.invariant-loop-i
invariant-loop-i l = (l.i ≤ length l.line) × (length l.text ≡ length l.initial.text) × (l.text ≡ placed l.initial.text l.at (take l.i l.line))
