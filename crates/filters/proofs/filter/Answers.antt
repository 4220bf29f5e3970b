-- `filters::filter` meets its contract: each step is an expression whose bound computes, and a quarter of the last, held, is the table's. Assumes nothing.
use mathlib.Core.Path.{◌≡◌, ap, ◌∙◌}
use Prim.Native.Nat.{◌+◌, ◌*◌, ◌≤◌}
use lib.IntN.{pos, nat_abs, ◌-ℤ◌, ◌*ℤ◌}
use lib.Signed.{quot_z}
use mir.Syntax.{w16, w32}
use Rattle.laws.proofs.Signed.{E, val, sub, mul, fits, got, read}
use Rattle.filters.specs.Edge.{held}
use Rattle.filters.specs.Aside.{own_of, count_of}
use Rattle.filters.proofs.Facts.{back}
use Rattle.filters.proofs.Modes.{weight_small, by_bits}
use Rattle.filters.proofs.Quarters.{sized}
use Rattle.filters.proofs.filter.Goals as goal
use Rattle.filters.proofs.filter.Given.{Over}

module _ (g : Over) (c : goal.After-beside g) where
  quarters : c.from.result ≡ pos c.args.quarters
  quarters = c.from.ensures

  weight : c.from-weight.result ≡ pos (own_of g.row.MODE + count_of g.row.MODE * c.args.quarters)
  weight = c.from-weight.ensures

  few : nat_abs c.from.result ≤ 20
  few = rw quarters c.requires.small.0

  small : nat_abs c.from-weight.result ≤ 84
  small = rw weight (weight_small g.row.MODE c.requires.small.0)

  abbrev own : E w16
  own = mul (val 84 c.from-weight.result small) (val 128 c.narrow-p.result c.narrow-p.ensures.size)

  abbrev beside : E w16
  beside = mul (val 20 c.from.result few) (val 512 c.beside.result c.beside.ensures.size)

  abbrev sum : E w16
  sum = sub own beside

pub overflow_mul-from : goal.overflow_mul-from
overflow_mul-from g c = fits (beside g c) tt

pub overflow_sub-weight : goal.overflow_sub-weight
overflow_sub-weight g c = fits (sum g c) tt

pub held_quarter-requires : goal.held_quarter-requires
held_quarter-requires g c = sized (sum g c) tt tt

pub returns : goal.returns
returns g c =
    let s = c.before.before in
    let n = s.args.n in
    let p = c.narrow-p.ensures.value ∙ back n c.requires.small.1 1 1 in
    got w32 c.from-2.type_inv c.from-2.ensures
    ∙ got w16 c.held_quarter.type_inv c.held_quarter.ensures
    ∙ ap (λ z. held (quot_z z (pos 4))) (read (sum g s) tt ∙ (λ i. weight g s i *ℤ p i -ℤ quarters g s i *ℤ c.beside.ensures.value i))
    ∙ by_bits n s.args.quarters g.row.MODE c.requires.mode
