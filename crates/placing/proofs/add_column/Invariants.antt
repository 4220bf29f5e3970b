-- The invariants of `placing::add_column`. Assumes nothing.
use Prim.Native.Nat.{◌≤◌}
use lib.ListN.{get_or}
use Rattle.strips.proofs.Columns.{Next}
use Rattle.placing.specs.Aside.{unset}
use Rattle.placing.proofs.add_column.Given as goal

abbrev pub invariant-loop-t : goal.invariant-loop-t
invariant-loop-t l =
    (l.t ≤ 16) × Next (λ p. unset 1 (get_or l.turned p 0)) l.b l.t l.low × Next (λ p. unset 2 (get_or l.turned p 0)) l.b l.t l.high
