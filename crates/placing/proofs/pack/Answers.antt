-- `placing::pack` meets its contract: the bits of eight columns are the byte. Assumes nothing.
use mathlib.Core.Path.{◌≡◌, refl}
use Prim.Native.Nat.{ℕ, ◌<◌}
use native.Mathlib.Omega.{arith}
use lib.ListN.{get_or}
use Rattle.laws.specs.Lists.{listed, packed}
use Rattle.placing.proofs.Weighed.{low_all, high_all}
use Rattle.placing.proofs.pack.Goals as goal

pub loop-b-init : goal.loop-b-init
unfolding listed packed
loop-b-init c = (omega arith, refl, refl, refl)

pub returns : goal.returns
returns c =
    let l = c.loop-b in
    let a = c.args in
    let bytes : (k : ℕ) → get_or a.pixels.now k 0 < 256 = λ k. (c.type_inv.pixels k).fits in
    let e : l.b ≡ 8 = omega arith in (
      low_all a.pixels.now bytes c.requires.pixels_value a.at c.requires.pixels_len.1 c.row_of.ensures c.turn-turned.ensures e l.invariant.2,
      high_all a.pixels.now bytes c.requires.pixels_value a.at c.requires.pixels_len.1 c.row_of.ensures c.turn-turned.ensures e l.invariant.3,
    )
