-- The invariants of `recording::record::put_bytes`. Assumes nothing.
use mathlib.Core.Path.{◌≡◌}
use lib.ListN.{length, take}
use Rattle.lines.specs.Hex.{placed}
use Rattle.recording.specs.Record.{row_hex}
use Rattle.recording.proofs.record.put_bytes.Given as goal

abbrev pub invariant-loop-i : goal.invariant-loop-i
invariant-loop-i l = (length l.out ≡ length l.initial.out) × (l.out ≡ placed l.initial.out l.at (row_hex (take l.i l.bytes)))
