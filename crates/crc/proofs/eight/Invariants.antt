-- The invariants of `crc::eight`. Assumes nothing.
use mathlib.Core.Path.{◌≡◌}
use Rattle.laws.specs.Iter.{iter}
use Rattle.crc.specs.Crc.{bit_step}
use Rattle.crc.proofs.eight.Given as goal

abbrev pub invariant-loop : goal.invariant-loop
invariant-loop l = l.c ≡ iter bit_step l.counter l.fn.c
