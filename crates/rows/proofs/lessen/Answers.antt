-- `rows::lessen` meets its contract: the columns below x are done in both rows, the others as they were. Assumes nothing.
use mathlib.Core.Path.{sym, ◌∙◌}
use native.Mathlib.Omega.{arith}
use Rattle.laws.proofs.Packed.{listed_of}
use Rattle.laws.proofs.Filled.{filled_end}
use Rattle.rows.proofs.lessen.Goals as goal

pub returns : goal.returns
returns c =
    let i = c.loop-x.invariant in
    (filled_end _ _ i.0 (omega arith), filled_end _ _ i.2 (omega arith) ∙ sym (listed_of _ 128 (omega arith)))
