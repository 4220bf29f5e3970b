-- The invariants of `strips::spread`. Assumes nothing.
use Rattle.std.proofs.Common.{◌+◌, ◌*◌, ◌<◌}
use Rattle.laws.proofs.Filled.{Filled}
use Rattle.strips.specs.Aside.{threshold_at}
use Rattle.strips.proofs.spread.Given as goal

abbrev pub invariant-loop-b : goal.invariant-loop-b
invariant-loop-b l = (l.j < 12) × Filled (threshold_at l.regs) 1536 (128 * l.j + 16 * l.b) l.out

abbrev pub invariant-loop-j : goal.invariant-loop-j
invariant-loop-j l = Filled (threshold_at l.regs) 1536 (128 * l.j) l.out
