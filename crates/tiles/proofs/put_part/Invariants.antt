-- The invariants of `tiles::put_part`. Assumes nothing.
use Rattle.std.proofs.Common.{◌≡◌}
use Rattle.lighting.specs.Light.{byte_at}
use Rattle.tiles.specs.Aside.{pixels}
use Rattle.tiles.proofs.Pixels.{stored}
use Rattle.tiles.proofs.put_part.Given as goal

abbrev pub invariant-loop-k : goal.invariant-loop-k
invariant-loop-k l = stored l.ram l.o l.low l.high ≡ pixels (byte_at l.frame.store.now) l.frame.regs.now l.j l.k l.ram
