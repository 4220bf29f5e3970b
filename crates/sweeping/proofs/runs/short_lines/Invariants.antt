-- The invariant of `sweeping::runs::short_lines` is that the lines so far were played. Assumes nothing.
use mathlib.Core.Path.{◌≡◌}
use mathlib.Core.Bool.{true}
use Prim.Native.Nat.{◌-◌}
use lib.ListN.{length}
use Rattle.layout.specs.Layout.{is_record, decoded}
use Rattle.session.specs.Session.{world}
use Rattle.sweeping.specs.Aside.{Strides}
use Rattle.sweeping.proofs.runs.short_lines.Given as goal

abbrev pub invariant-loop-i : goal.invariant-loop-i
invariant-loop-i l = record {
  strides : Strides l.rom l.piece (world (decoded l.initial.state) l.initial.ram l.initial.store l.initial.image) l.initial.book l.initial.out l.from l.at (world (decoded l.state) l.ram l.store l.image) l.book l.out l.i l.to;
  is_record : is_record l.state ≡ true;
  thirteen : length l.book ≡ 13;
}

abbrev pub decreases-loop-i : goal.decreases-loop-i
decreases-loop-i l = length l.piece - l.i
