-- The invariants of `script::text::feed`. Assumes nothing.
use mathlib.Core.Path.{◌≡◌}
use mathlib.Core.Bool.{true}
use mathlib.Core.List.{[]}
use Prim.Native.Nat.{◌-◌, ◌≤◌}
use lib.ListN.{length, take}
use Rattle.layout.specs.Layout.{is_record, decoded}
use Rattle.session.specs.Session.{world}
use Rattle.short.specs.Aside.{Ends}
use Rattle.script.specs.Pieces.{Going, reading}
use Rattle.script.proofs.text.feed.Given as goal

abbrev pub invariant-loop-bytes : goal.invariant-loop-bytes
invariant-loop-bytes l =
    (length l.ram ≡ length l.initial.ram) × (length l.store ≡ length l.initial.store) × (length l.image ≡ length l.initial.image) × (length l.line ≡ 261) × (l.held ≤ 261) × Ends l.piece l.i l.end
    × Going l.rom (reading (world (decoded l.initial.bytes) l.initial.ram l.initial.store l.initial.image) (take l.initial.held l.initial.line) [] 0) l.initial.out l.piece (world (decoded l.bytes) l.ram l.store l.image) (take l.held l.line) l.out l.at l.i
    × (is_record l.bytes ≡ true)

abbrev pub decreases-loop-bytes : goal.decreases-loop-bytes
decreases-loop-bytes l = length l.piece - l.end
