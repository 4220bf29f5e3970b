-- The invariants of `changes::Compared::end`. Assumes nothing.
use mathlib.Core.Path.{◌≡◌}
use Prim.Native.Nat.{◌-◌}
use lib.ListN.{length}
use Rattle.changes.specs.Changes.{reach}
use Rattle.changes.proofs.Compared.end.Given as goal

abbrev pub invariant-loop-p : goal.invariant-loop-p
invariant-loop-p l =
    let first = l.self.first.now in
    let ram = l.self.ram.now in
    reach first ram (length ram - l.p) l.p ≡ reach first ram (length ram - l.from) l.from
