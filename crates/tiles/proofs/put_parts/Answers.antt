-- `tiles::put_parts` meets its contract. The invariant: the pixels before those of pair n are put. Assumes nothing.
use Rattle.std.proofs.Common.{◌≡◌, sym, ap, ◌∙◌, ◌+◌, ◌*◌, ◌/◌, min, max, arith}
use Rattle.lighting.specs.Light.{byte_at}
use Rattle.tiles.specs.Aside.{pixels}
use Rattle.tiles.proofs.Run.{pixels_none, pixels_join}
use Rattle.tiles.proofs.put_parts.Goals as goal

pub loop-n-init : goal.loop-n-init
loop-n-init c =
    let a = c.args in
    let e : min a.to (max a.from (8 * (a.from / 8))) ≡ a.from = omega arith in
    rw e (sym (pixels_none _ _ _ _))

pub loop-n-preserved : goal.loop-n-preserved
loop-n-preserved c =
    let a = c.args in
    let l = c.loop-n in
    let lit = byte_at a.frame.store.now in
    let low = c.max.result in
    let high = c.min.result in
    let p : min a.to (max a.from (8 * l.n)) ≡ low = omega arith in
    let q : min a.to (max a.from (8 * (l.n + 1))) ≡ high = omega arith in
    rw q
    (c.put_part.ensures
    ∙ ap (pixels lit a.frame.regs.now low high) (rw p at l.invariant)
    ∙ pixels_join lit a.frame.regs.now a.from low high a.ram.now (omega arith) (omega arith))
