-- `crc::fill` meets its contract: the invariant, that the tables before the next are made, and how far the bits of a byte are. Assumes nothing.
use borrow.Author.Rules.{rules}
use mathlib.Core.Path.{◌≡◌}
use Prim.Native.Nat.{ℕ, ◌+◌, ◌*◌, ◌<◌}
use native.Mathlib.Omega.{arith}
use lib.ListN.{get_or}
use Rattle.laws.specs.Iter.{iter}
use Rattle.crc.specs.Crc.{bit_step}
use Rattle.crc.proofs.Ahead.{bits_next, first_more}
use Rattle.crc.proofs.fill.Goals as goal

pub loop-table-preserved : goal.loop-table-preserved
loop-table-preserved c =
    let l = c.loop-table in
    let i = l.table-index in
    let r = c.map-bits.ensures.items in
    let moved : (j : ℕ) → j < 8 → get_or c.map-bits.result j 0 ≡ iter bit_step 8 (get_or l.bits j 0) = λ j h. let k = r.at j 0 0 h in let z = k.2 in search rules in (
      λ j h. bits_next (8 * i) (8 * (i + 1)) j _ _ (omega arith) (l.invariant.0 j h) (moved j h),
      first_more l.invariant.1 (omega arith) (c.fill_table.ensures i (λ j h. bits_next (8 * i) (8 + 8 * i) j _ _ (omega arith) (l.invariant.0 j h) (moved j h))),
    )
