-- The invariant of `salvaging::put::put_report`: what is still to be put, from here and from the start, comes to the same. Assumes nothing.
use Rattle.std.proofs.Common.{◌≡◌, ◌+◌, ◌≤◌, length}
use Rattle.lines.specs.Hex.{placed}
use Rattle.script.specs.Text.{lines_of}
use Rattle.salvaging.specs.Kept.{marks}
use Rattle.salvaging.proofs.put.put_report.Given as goal

abbrev pub invariant-loop-i : goal.invariant-loop-i
invariant-loop-i l =
    (l.i-iterator.count + length (lines_of l.i-iterator.iter.0.now) ≤ length l.initial.report)
    × (placed l.report l.i-iterator.count (marks l.left (lines_of l.i-iterator.iter.0.now)) ≡ placed l.initial.report 0 (marks l.n (lines_of l.script.text.now)))
