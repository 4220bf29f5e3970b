-- The invariants of `tiles::put_parts`. Assumes nothing.
use Rattle.std.proofs.Common.{◌≡◌, ◌*◌, min, max}
use Rattle.lighting.specs.Light.{byte_at}
use Rattle.tiles.specs.Aside.{pixels}
use Rattle.tiles.proofs.put_parts.Given as goal

abbrev pub invariant-loop-n : goal.invariant-loop-n
invariant-loop-n l = l.ram ≡ pixels (byte_at l.frame.store.now) l.frame.regs.now l.from (min l.to (max l.from (8 * l.n))) l.initial.ram
