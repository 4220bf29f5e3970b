-- The invariants of `strips::add_column`. Assumes nothing.
use Rattle.strips.proofs.Columns.{Next}
use Rattle.strips.proofs.add_column.Given as goal

abbrev pub invariant-loop-t : goal.invariant-loop-t
invariant-loop-t g l = let m = g.R.Turned in Next (m.low l.row) l.b l.t l.low × Next (m.high l.row) l.b l.t l.high
