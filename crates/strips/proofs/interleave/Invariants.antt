-- The invariants of `strips::interleave`. Assumes nothing.
use Rattle.std.proofs.Common.{◌+◌, ◌*◌, ◌/◌, ◌%◌, get_or}
use Rattle.laws.proofs.Filled.{Filled}
use Rattle.strips.proofs.interleave.Given as goal

abbrev pub invariant-loop-i : goal.invariant-loop-i
invariant-loop-i l = Filled (λ p. get_or l.a (p % 2 * 64 + p / 2) 0) 128 (2 * l.i) l.out
