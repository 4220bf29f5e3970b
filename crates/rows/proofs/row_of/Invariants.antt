-- The invariants of `rows::row_of`. Assumes nothing.
use Rattle.lighting.specs.Light.{byte_at}
use Rattle.rows.specs.Aside.{pixel_by}
use Rattle.laws.proofs.Filled.{Filled}
use Rattle.rows.proofs.row_of.Given as goal

abbrev pub invariant-loop-x : goal.invariant-loop-x
invariant-loop-x g l = Filled (pixel_by g.row.MODE l.quarters (byte_at l.store) l.row) 128 l.x l.out

abbrev pub invariant-loop-x-2 : goal.invariant-loop-x-2
invariant-loop-x-2 g l = Filled (pixel_by g.row.MODE l.quarters (byte_at l.store) l.row) 128 l.x l.out

abbrev pub invariant-loop-x-3 : goal.invariant-loop-x-3
invariant-loop-x-3 g l = Filled (pixel_by g.row.MODE l.quarters (byte_at l.store) l.row) 128 l.x l.out
