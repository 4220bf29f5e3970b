-- The invariants of `changes::Compared::begin`. Assumes nothing.
use mathlib.Core.Path.{◌≡◌}
use Prim.Native.Nat.{◌-◌}
use lib.ListN.{length}
use Rattle.changes.specs.Changes.{seek, begins}
use Rattle.changes.proofs.Compared.begin.Given as goal

abbrev pub invariant-loop-p : goal.invariant-loop-p
invariant-loop-p l =
    let first = l.self.first.now in
    let ram = l.self.ram.now in
    seek first ram (length ram - l.p) l.p ≡ begins first ram l.from
