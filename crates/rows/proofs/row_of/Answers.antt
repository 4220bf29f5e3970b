-- `rows::row_of` meets its contract: the last column makes the row whole. Assumes nothing.
use native.Mathlib.Omega.{arith}
use Rattle.laws.proofs.Filled.{filled_last}
use Rattle.rows.proofs.row_of.Goals as goal

pub returns : goal.returns
returns g c = let l = c.loop-x-3 in filled_last _ l.out _ l.invariant (omega arith) c.pixel-3.ensures
