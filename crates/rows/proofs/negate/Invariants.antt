-- The invariant of `rows::negate`. Assumes nothing.
use lib.ListN.{get_or}
use Rattle.laws.proofs.Filled.{Filled}
use Rattle.rows.specs.Aside.{less_of}
use Rattle.rows.proofs.Kept.{Kept}
use Rattle.rows.proofs.negate.Given as goal

abbrev pub invariant-loop-v : goal.invariant-loop-v
invariant-loop-v l =
    Filled (λ k. less_of 128 (get_or l.initial.out k 0)) 128 l.v-index l.out × Kept l.initial.out l.v-index l.out
