-- The invariant of `next` of the lines of a script: no LF was passed. Assumes nothing.
use Rattle.std.proofs.Common.{◌≡◌, ◌+◌, ◌≤◌, length, drop}
use Rattle.salvaging.specs.Aside.{line_length}
use Rattle.salvaging.proofs.place.LinesIterator.next.Given as goal

abbrev pub invariant-loop-end : goal.invariant-loop-end
invariant-loop-end l = (l.end ≤ length l.script) × (l.end + line_length (drop l.end l.script) ≡ line_length l.script)
