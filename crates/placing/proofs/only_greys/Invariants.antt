-- The invariants of `placing::only_greys`. Assumes nothing.
use mathlib.Core.Path.{◌≡◌}
use mathlib.Core.Bool.{Bool}
use mathlib.Core.List.{List}
use Prim.Native.Nat.{ℕ}
use lib.ListN.{get_or}
use Rattle.placing.specs.Placing.{each, is_grey}
use Rattle.placing.proofs.only_greys.Given as goal

abbrev pub greyIn : List ℕ → ℕ → Bool
greyIn pixels k = is_grey (get_or pixels k 0)

abbrev pub invariant-loop-v : goal.invariant-loop-v
invariant-loop-v l = l.all ≡ each (greyIn l.pixels) l.v-index
