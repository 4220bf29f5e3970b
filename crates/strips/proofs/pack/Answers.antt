-- `strips::pack` meets its contract: the bits of eight columns are the byte. Assumes nothing.
use Rattle.std.proofs.Common.{◌≡◌, arith}
use Rattle.laws.specs.Lists.{packed}
use Rattle.strips.proofs.Columns.{eight_columns}
use Rattle.strips.proofs.pack.Goals as goal

pub loop-b-init : goal.loop-b-init
unfolding packed
loop-b-init g c = (c.requires.0, c.requires.1)

pub returns : goal.returns
returns g c =
    let l = c.loop-b in
    let row = c.args.row.now in
    let e : l.b ≡ 8 = omega arith in
    (eight_columns (g.R.Turned.low row) e l.invariant.0, eight_columns (g.R.Turned.high row) e l.invariant.1)
