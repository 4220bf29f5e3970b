-- The invariants of `lines::line::spelt`. Assumes nothing.
use Rattle.std.proofs.Common.{◌≡◌, ◌*◌, ◌-◌, ◌^◌}
use Rattle.lines.specs.Line.{number_at}
use Rattle.lines.proofs.line.spelt.Given as goal

abbrev pub invariant-loop-k : goal.invariant-loop-k
invariant-loop-k g l = l.v ≡ number_at l.digits 0 l.k * 16 ^ (g.row.N - l.k)
