-- The invariants of `wording::words::count_digits`. Assumes nothing.
use mathlib.Core.Path.{◌≡◌}
use Prim.Native.Nat.{◌≤◌, ◌+◌, ◌-◌}
use Rattle.wording.specs.Aside.{count_in}
use Rattle.wording.proofs.words.count_digits.Given as goal

abbrev pub invariant-loop-n : goal.invariant-loop-n
invariant-loop-n l = (l.n ≤ l.most) × (count_in (l.most - l.n) l.rest + l.n ≡ count_in l.most l.v)

abbrev pub decreases-loop-n : goal.decreases-loop-n
decreases-loop-n l = l.most - l.n
