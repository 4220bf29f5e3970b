-- The invariant of `sweeping::sweep` is `Sweeps`, of the bytes up to here. Assumes nothing.
use mathlib.Core.Path.{◌≡◌}
use mathlib.Core.Bool.{true}
use Prim.Native.Nat.{◌-◌}
use lib.ListN.{length}
use Rattle.layout.specs.Layout.{is_record, decoded}
use Rattle.session.specs.Session.{world}
use Rattle.short.specs.Aside.{Ends}
use Rattle.sweeping.specs.Aside.{Sweeps}
use Rattle.sweeping.proofs.sweep.Given as goal

abbrev pub invariant-loop-end : goal.invariant-loop-end
invariant-loop-end l = record {
  sweeps : Sweeps l.rom (world (decoded l.initial.state) l.initial.ram l.initial.store l.initial.image) l.initial.book l.piece l.initial.out (world (decoded l.state) l.ram l.store l.image) l.book l.out l.i l.at;
  ends : Ends l.piece l.i l.end;
  thirteen : length l.book ≡ 13;
  is_record : is_record l.state ≡ true;
}

abbrev pub decreases-loop-end : goal.decreases-loop-end
decreases-loop-end l = length l.piece - l.end
