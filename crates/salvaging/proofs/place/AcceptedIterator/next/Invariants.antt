-- The invariant of `next` of the accepted lines: those that are left are the same. Assumes nothing.
use Rattle.std.proofs.Common.{◌≡◌, length}
use Rattle.script.specs.Text.{lines_of}
use Rattle.salvaging.specs.Kept.{accepted_of}
use Rattle.salvaging.proofs.place.AcceptedIterator.next.Given as goal

abbrev pub invariant-loop-line : goal.invariant-loop-line
invariant-loop-line l = accepted_of (lines_of l.self.0.0.now) ≡ accepted_of (lines_of l.initial.self.0.0.now)

abbrev pub decreases-loop-line : goal.decreases-loop-line
decreases-loop-line l = length (lines_of l.self.0.0.now)
