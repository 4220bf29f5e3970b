-- `tiles::put_part` meets its contract. The invariant: the two bytes have the pixels before k. Assumes nothing.
use Rattle.std.proofs.Common.{arith, ◌+◌, ◌/◌, ◌%◌}
use Rattle.lighting.specs.Light.{byte_at}
use Rattle.tiles.proofs.Pixels.{shade_same, shade_bound}
use Rattle.tiles.proofs.Part.{part_none, part_more}
use Rattle.tiles.proofs.put_part.Goals as goal

pub loop-k-init : goal.loop-k-init
loop-k-init c =
    let a = c.args in
    part_none (byte_at a.frame.store.now) a.frame.regs.now a.ram.now a.j _ (omega arith) (omega arith) (omega (arith, c.pair_at-o.ensures))

pub put_bit-high-requires : goal.put_bit-high-requires
put_bit-high-requires c = omega (arith, shade_bound _ _ _ _ _ (shade_same _ _ _ _ _ c.pixel_at-pixel.ensures))

pub loop-k-preserved : goal.loop-k-preserved
loop-k-preserved c =
    let l = c.loop-k in
    let a = c.args in
    let lit = byte_at a.frame.store.now in
    let shade = shade_same lit a.frame.regs.now (l.k % 128) (a.j / 128 + 8) c.pixel_at-pixel.result c.pixel_at-pixel.ensures in
    rw (c.put_bit-low.ensures, c.put_bit-high.ensures)
    (part_more lit a.frame.regs.now a.ram.now a.j _ (omega arith) (omega arith) (omega (arith, c.pair_at-o.ensures)) l.k l.low l.high c.pixel_at-pixel.result.shade (omega arith) (omega arith) l.invariant shade)
