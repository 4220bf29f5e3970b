-- `shades::put_tones` meets its contract. The invariant: the pixels put so far. Assumes nothing.
use Prim.Native.Nat.{◌<◌}
use native.Mathlib.Omega.{arith}
use Rattle.laws.proofs.Filled.{filled_end}
use Rattle.shades.proofs.Tones.{built_fits, two_put}
use Rattle.shades.proofs.put_tones.Goals as goal

pub eight-a-requires : goal.eight-a-requires
eight-a-requires c = (omega arith, omega arith, omega arith, built_fits c.fill.ensures c.requires.step_bound)

pub eight-b-requires : goal.eight-b-requires
eight-b-requires c = (omega arith, omega arith, omega arith, built_fits c.fill.ensures c.requires.step_bound)

pub loop-x-preserved : goal.loop-x-preserved
loop-x-preserved c =
    let l = c.loop-x in
    let y = c.loop-y.y in
    let a = c.args in
    let inside : l.x < 8 = omega arith in
    let below : y < 112 = omega arith in
    (omega arith, rw (c.put_eight-in-loop-x.ensures, c.put_eight.ensures) (two_put a.ram.now a.step a.negative c.requires.step_bound c.fill.ensures {x = l.x} {y = y} c.eight-a.ensures c.eight-b.ensures inside below l.invariant.1))

pub returns : goal.returns
returns c = filled_end _ _ c.loop-y.invariant.1 (omega arith)
