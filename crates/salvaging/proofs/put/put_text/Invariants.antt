-- The invariant of `salvaging::put::put_text`: what is still to be put, from here and from the start, comes to the same. Assumes nothing.
use Rattle.std.proofs.Common.{◌≡◌, ◌+◌, ◌≤◌, length, take}
use Rattle.lines.specs.Hex.{placed}
use Rattle.script.specs.Text.{lines_of}
use Rattle.salvaging.specs.Kept.{accepted_of, text_of}
use Rattle.salvaging.specs.Aside.{accepted_at}
use Rattle.salvaging.proofs.put.put_text.Given as goal

abbrev pub invariant-loop-line : goal.invariant-loop-line
invariant-loop-line l =
    (l.out + length (text_of (take l.line-iterator.n (accepted_of (lines_of l.line-iterator.iter.0.0.now)))) ≤ length l.initial.text)
    × (placed l.text l.out (text_of (take l.line-iterator.n (accepted_of (lines_of l.line-iterator.iter.0.0.now)))) ≡ placed l.initial.text 0 (text_of (take l.n (accepted_at l.script.text.now 0))))
