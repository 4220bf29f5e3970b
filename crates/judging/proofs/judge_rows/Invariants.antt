-- The invariants of `judging::judge_rows`. Assumes nothing.
use mathlib.Core.Path.{◌≡◌}
use Prim.Native.Nat.{◌≤◌}
use Rattle.laws.proofs.Filled.{Filled}
use Rattle.judging.specs.Judging.{row_judged, rows_equal}
use Rattle.judging.proofs.judge_rows.Given as goal

abbrev pub invariant-loop-y : goal.invariant-loop-y
invariant-loop-y l =
    (l.y ≤ 112) × (l.equal ≤ l.y) × (l.equal ≡ rows_equal l.plate l.picture l.y) × Filled (row_judged l.plate l.picture) 112 l.y l.rows
