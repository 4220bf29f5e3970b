-- The invariant of `rows::lessen`. Assumes nothing.
use lib.ListN.{get_or}
use Rattle.laws.proofs.Filled.{Filled}
use Rattle.rows.specs.Aside.{less_of}
use Rattle.rows.proofs.Kept.{Kept}
use Rattle.rows.proofs.lessen.Given as goal

abbrev pub invariant-loop-x : goal.invariant-loop-x
invariant-loop-x l =
    Filled (λ k. less_of (get_or l.initial.carried k 0) (get_or l.initial.out k 0)) 128 l.x l.out
    × Kept l.initial.out l.x l.out
    × Filled (λ k. get_or l.initial.out k 0) 128 l.x l.carried
    × Kept l.initial.carried l.x l.carried
