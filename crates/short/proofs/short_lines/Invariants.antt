-- The invariants of `short::short_lines`. Assumes nothing.
use mathlib.Core.Path.{◌≡◌}
use mathlib.Core.Bool.{true}
use Prim.Native.Nat.{◌-◌}
use lib.ListN.{length}
use Rattle.layout.specs.Layout.{is_record, decoded}
use Rattle.session.specs.Session.{world}
use Rattle.short.specs.Aside.{Moves}
use Rattle.short.proofs.short_lines.Given as goal

abbrev pub invariant-loop-i : goal.invariant-loop-i
invariant-loop-i l =
    (length l.state ≡ length l.initial.state) × (length l.ram ≡ length l.initial.ram) × (length l.store ≡ length l.initial.store) × (length l.image ≡ length l.initial.image) × (length l.out ≡ length l.initial.out)
    × Moves l.rom l.piece (world (decoded l.initial.state) l.initial.ram l.initial.store l.initial.image) l.initial.out l.at l.from (world (decoded l.state) l.ram l.store l.image) l.out l.to l.i × (is_record l.state ≡ true)

abbrev pub decreases-loop-i : goal.decreases-loop-i
decreases-loop-i l = length l.piece - l.i
