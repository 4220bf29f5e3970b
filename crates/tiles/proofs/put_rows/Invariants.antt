-- The invariants of `tiles::put_rows`. Assumes nothing.
use Rattle.std.proofs.Common.{◌≡◌, ◌+◌, ◌-◌, ◌*◌}
use Rattle.lighting.specs.Light.{byte_at}
use Rattle.rows.specs.Aside.{Carried}
use Rattle.tiles.specs.Aside.{put_pairs}
use Rattle.tiles.proofs.put_rows.Given as goal

abbrev pub invariant-loop-y : goal.invariant-loop-y
invariant-loop-y l =
    Carried (byte_at l.frame.store.now) l.frame.set (l.y + 8) l.carried × (l.out ≡ put_pairs (byte_at l.frame.store.now) l.frame.regs.now l.at (16 * l.first) (16 * (l.y - l.first)) l.initial.out)
