-- The invariants of `desk::choice::put_matrix`. Assumes nothing.
use mathlib.Core.Path.{◌≡◌}
use Prim.Native.Nat.{◌≤◌, ℕ, ◌+◌}
use Rattle.desk.specs.Choice.{stored, shown}
use mathlib.Core.Bool.{Bool}
use mathlib.Core.List.{List}
use lib.ListN.{get_or}
use Rattle.desk.proofs.choice.put_matrix.Given as goal

abbrev pub values : List ℕ → ℕ → Bool → ℕ → ℕ
values table from plain k = get_or table (from + shown plain k) 0

abbrev pub invariant-loop-k : goal.invariant-loop-k
invariant-loop-k l = (l.k ≤ 48) × (l.out ≡ stored l.initial.out 6 (values l.table l.from l.plain) l.k)
