-- `shades::fill` meets its contract: byte 0, and then for each bit as many bytes more as there are. Assumes nothing.
use mathlib.Core.Path.{◌≡◌, sym}
use native.Mathlib.Omega.{arith}
use Rattle.shades.proofs.Tones.{built_none, built_to, weight_at, power}
use Rattle.shades.proofs.fill.Goals as goal

pub loop-k-init : goal.loop-k-init
loop-k-init c = built_none _ c.args.t.now (omega arith)

pub double-requires : goal.double-requires
double-requires c =
    let l = c.loop-k in
    (built_to l.invariant (sym (power l.k (omega arith)).0), c.requires, weight_at l.k (omega arith))

pub returns : goal.returns
returns c =
    let e : c.loop-k.k ≡ 8 = omega arith in
    rw e at c.loop-k.invariant
