-- The invariants of `tiles::put_line`. Assumes nothing.
use Rattle.std.proofs.Common.{◌≡◌, ◌*◌}
use Rattle.lighting.specs.Light.{byte_at}
use Rattle.tiles.specs.Aside.{put_pairs}
use Rattle.tiles.proofs.put_line.Given as goal

abbrev pub invariant-loop-t : goal.invariant-loop-t
invariant-loop-t l = l.out ≡ put_pairs (byte_at l.frame.store.now) l.frame.regs.now l.at (16 * l.y) l.t l.initial.out
