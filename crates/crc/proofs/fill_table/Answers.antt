-- `crc::fill_table` meets its contract: the invariant, that the places below the next bit are those of their bytes. Assumes nothing.
use mathlib.Core.Path.{refl, ◌∙◌}
use native.Mathlib.Omega.{arith}
use lib.ListN.{length-set}
use Rattle.crc.proofs.Ahead.{entry_none, entry_sum, built_more, built_to, built_none, weight}
use Rattle.crc.proofs.fill_table.Goals as goal

pub loop-x-init : goal.loop-x-init
loop-x-init c = (omega arith, refl, length-set c.args.t.now _ _ ∙ c.told-t, λ k h. built_more 0 (built_none k) (omega (arith, c.told-t)) (entry_none k))

pub loop-b-preserved : goal.loop-b-preserved
loop-b-preserved c =
    let o = c.loop-x in
    let l = c.loop-b in (
      omega arith,
      length-set l.t _ _ ∙ l.invariant.1,
      λ k h.
          let before = l.invariant.2 k h in
          let v = entry_sum k o.x-index o.w l.b _ _ o.invariant.1 (omega arith) (before.same l.b (omega arith)) (h o.x-index (omega arith)) in
          built_to (built_more _ before (omega (arith, l.invariant.1, weight o.x-index (omega arith))) v) (omega arith),
    )
