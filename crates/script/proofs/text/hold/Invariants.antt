-- The invariants of `script::text::hold`. Assumes nothing.
use mathlib.Core.Path.{◌≡◌}
use Prim.Native.Nat.{◌≤◌}
use lib.ListN.{length, take}
use Rattle.lines.specs.Hex.{placed}
use Rattle.script.proofs.text.hold.Given as goal

abbrev pub invariant-loop-i : goal.invariant-loop-i
invariant-loop-i l = (l.i ≤ l.n) × (length l.line ≡ 261) × (l.line ≡ placed l.initial.line l.held (take l.i l.bytes))
