-- `shades::eight` meets its contract: two numbers of the table, one of them twice, fit. Assumes nothing.
use mathlib.Core.Path.{◌≡◌}
use Prim.Native.Nat.{◌+◌, ◌*◌}
use native.Mathlib.Omega.{arith}
use Rattle.tiles.specs.Tiles.{place}
use Rattle.shades.specs.Aside.{eight_by}
use Rattle.shades.proofs.eight.Goals as goal

pub returns : goal.returns
unfolding eight_by
returns c =
    let a = c.args in
    let e : 256 + c.pair_at-at.result ≡ place (8 * a.x) a.y = omega (arith, c.pair_at-at.ensures) in
    record { low = (c.type_inv.ram _).fits; high = (c.type_inv.ram _).fits; made = rw e at c.turn.ensures }
