-- `rows::next_row` meets its contract: by what the 1-D filter asks of the row. Assumes nothing.
use mathlib.Core.Path.{sym, ◌∙◌}
use Prim.Native.Nat.{◌+◌, ◌*◌}
use Rattle.rows.proofs.Values.{row_lessened, row_negated, row_kept, carried_on, carried_none}
use Rattle.rows.proofs.next_row.Goals as goal

-- the row below is asked for
pub returns-then-asks_below : goal.returns-then-asks_below
returns-then-asks_below c =
    let s = c.args in
    let yes = sym c.asks_below.ensures ∙ c.if-asks_below.true in (
      c.lessen.ensures.0 ∙ row_lessened _ (λ x row. c.fits-store (row * 128 + x)) s.set _ (c.requires.carried.below yes) yes c.row_4.ensures,
      carried_on _ s.set _ (c.lessen.ensures.1 ∙ c.row_4.ensures),
    )

-- it is not
pub returns-then-negating : goal.returns-then-negating
returns-then-negating c =
    let s = c.args in (
      c.negate.ensures ∙ row_negated _ (λ x row. c.fits-store (row * 128 + x)) s.set _ c.row_4-2.ensures (sym c.negating.ensures ∙ c.if-negating.true),
      carried_none _ s.set _ c.requires.carried.whole (sym c.asks_below.ensures ∙ c.if-asks_below.false),
    )

pub returns-else-negating : goal.returns-else-negating
returns-else-negating c =
    let s = c.args in
    let off = sym c.asks_below.ensures ∙ c.if-asks_below.false in (
      row_kept _ (λ x row. c.fits-store (row * 128 + x)) s.set _ c.row_4-2.ensures off (sym c.negating.ensures ∙ c.if-negating.false),
      carried_none _ s.set _ c.requires.carried.whole off,
    )
