-- `tiles::put_line` meets its contract. The invariant: the first t pairs of the row are put. Assumes nothing.
use Rattle.std.proofs.Common.{refl, sym, ap, ◌∙◌, ◌+◌, ◌*◌, ◌<◌, arith}
use Rattle.laws.specs.Lists.{listed}
use Rattle.lighting.specs.Light.{byte_at}
use Rattle.tiles.specs.Aside.{put_pair}
use Rattle.tiles.proofs.Pairs.{low_made, high_made, pairs_none, pairs_more, pair_stored}
use Rattle.tiles.proofs.put_line.Goals as goal

pub shade_row-requires : goal.shade_row-requires
unfolding listed
shade_row-requires c = (c.requires.matrix, refl, refl)

pub loop-t-init : goal.loop-t-init
loop-t-init c = sym (pairs_none _ _ _ _ _)

pub loop-t-preserved : goal.loop-t-preserved
loop-t-preserved c =
    let l = c.loop-t in
    let inside : l.t < 16 = omega arith in
    let a = c.args in
    let lit = byte_at a.frame.store.now in
    let regs = a.frame.regs.now in
    let y = a.y in
    let v = c.next_row.ensures.0 in
    let q = a.frame.asked.same in
    let low = low_made lit regs a.frame.set q l.t y inside v c.shade_row.ensures.0 in
    let high = high_made lit regs a.frame.set q l.t y inside v c.shade_row.ensures.1 in
    pair_stored lit regs a.at l.out l.t y _ _ _ inside (omega (arith, c.pair_at.ensures)) low high
    ∙ ap (put_pair lit regs a.at (16 * y + l.t)) l.invariant
    ∙ sym (pairs_more lit regs a.at (16 * y) l.t a.out.now)
