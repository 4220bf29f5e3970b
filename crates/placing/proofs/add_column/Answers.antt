-- `placing::add_column` meets its contract: the tiles below t have a bit more. Assumes nothing.
use native.Mathlib.Omega.{arith}
use lib.ListN.{get_or}
use Rattle.strips.proofs.Columns.{moved_none, moved_end, column_next}
use Rattle.placing.specs.Aside.{unset}
use Rattle.placing.proofs.Weighed.{unset_two}
use Rattle.placing.proofs.add_column.Goals as goal

pub loop-t-init : goal.loop-t-init
loop-t-init c = (omega arith, moved_none _ _ c.requires.low_value.0, moved_none _ _ c.requires.low_value.1)

pub loop-t-preserved : goal.loop-t-preserved
loop-t-preserved c =
    let l = c.loop-t in
    let line = c.args.turned.now in
    let p = c.requires.b_bound in (
      omega arith,
      column_next (λ p. unset 1 (get_or line p 0)) (unset_two 1 line) p.0 p.1 l.invariant.1 (omega arith) c.weigh.ensures,
      column_next (λ p. unset 2 (get_or line p 0)) (unset_two 2 line) p.0 p.1 l.invariant.2 (omega arith) c.weigh-in-loop-t.ensures,
    )

pub returns : goal.returns
returns c = let l = c.loop-t in (moved_end _ _ l.invariant.1 (omega arith), moved_end _ _ l.invariant.2 (omega arith))
