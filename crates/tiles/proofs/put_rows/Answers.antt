-- `tiles::put_rows` meets its contract. The invariant: the rows before y are put, and what is carried is row y's. Assumes nothing.
use Rattle.std.proofs.Common.{◌≡◌, sym, ap, ◌∙◌, ◌+◌, ◌-◌, ◌*◌, arith}
use Rattle.lighting.specs.Light.{byte_at}
use Rattle.tiles.specs.Aside.{put_pairs}
use Rattle.tiles.proofs.Pairs.{pairs_none, pairs_join}
use Rattle.tiles.proofs.put_rows.Goals as goal

pub loop-y-init : goal.loop-y-init
loop-y-init c =
    let e : 16 * (c.args.first - c.args.first) ≡ 0 = omega arith in
    (c.first_row.ensures, rw e (sym (pairs_none _ _ _ _ _)))

pub loop-y-preserved : goal.loop-y-preserved
loop-y-preserved c =
    let p = c.put_line in
    let l = c.loop-y in
    let a = c.args in
    let lit = byte_at a.frame.store.now in
    let e : l.y + 8 + 1 ≡ l.y + 1 + 8 = omega arith in
    let f : 16 * l.y ≡ 16 * a.first + 16 * (l.y - a.first) = omega arith in
    let g : 16 * (l.y - a.first) + 16 ≡ 16 * (l.y + 1 - a.first) = omega arith in (
      rw e at p.ensures.1,
      rw f at p.ensures.0
          ∙ ap (put_pairs lit a.frame.regs.now a.at (16 * a.first + 16 * (l.y - a.first)) 16) l.invariant.1
          ∙ rw g at (pairs_join lit a.frame.regs.now a.at (16 * a.first) (16 * (l.y - a.first)) 16 a.out.now),
    )
