-- The invariant of `salvaging::twice::after`: so many lines are passed. Assumes nothing.
use Rattle.std.proofs.Common.{◌≡◌, drop}
use Rattle.script.specs.Text.{lines_of}
use Rattle.salvaging.specs.Kept.{accepted_of}
use Rattle.salvaging.proofs.twice.after.Given as goal

abbrev pub invariant-loop : goal.invariant-loop
invariant-loop l = accepted_of (lines_of l.lines.0.0.now) ≡ drop l.counter (accepted_of (lines_of l.script))
