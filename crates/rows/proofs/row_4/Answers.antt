-- `rows::row_4` meets its contract: what is not a filter's is so at each column. Assumes nothing.
use borrow.Author.Tests.{ne_eqb}
use lib.ListN.{get_or}
use mathlib.Core.Path.{refl, ap, ◌∙◌}
use native.Mathlib.Omega.{arith}
use Rattle.std.proofs.lemmas.List.{get_or-take, get_or-drop}
use Rattle.filters.specs.Edge.{edge_of}
use Rattle.rows.proofs.Values.{zero_row, plain_row}
use Rattle.rows.proofs.row_4.Goals as goal

pub returns-in-1 : goal.returns-in-1
returns-in-1 c =
    rw c.in-1.is (zero_row _ _ _ c.fill.array_long (λ x h. c.fill.ensures.clones x 0 (omega arith) refl))

pub returns-in_default : goal.returns-in_default
unfolding edge_of
returns-in_default c =
    let m = c.args.mode in
    plain_row _ _ _ c.copy_from_slice.array_long m (λ n. simp (
      ne_eqb m 1 (omega arith),
      ne_eqb m 2 (omega arith),
      ne_eqb m 3 (omega arith),
      ne_eqb m 12 (omega arith),
      ne_eqb m 13 (omega arith),
      ne_eqb m 14 (omega arith),
      ne_eqb m 15 (omega arith),
    )) (λ x h. ap (λ l. get_or l x 0) c.copy_from_slice.ensures.after ∙ get_or-take _ _ x 0 (omega arith) ∙ get_or-drop _ _ x 0)
