-- The invariants of `crc::run_all`. Assumes nothing.
use mathlib.Core.Path.{◌≡◌}
use lib.ListN.{take}
use Rattle.std.specs.List.{fold}
use Rattle.crc.specs.Crc.{over}
use Rattle.crc.proofs.run_all.Given as goal

abbrev pub invariant-loop-s : goal.invariant-loop-s
invariant-loop-s g l = l.c ≡ fold over l.start (take l.s-index l.pieces)
