-- `filters::held_quarter` meets its contract: the sum and the shift are an expression whose bound computes, and what it is, once held, is the quotient held. Assumes nothing.
use mathlib.Core.Path.{◌≡◌, ap, ◌∙◌}
use Prim.Native.Nat.{◌≤◌}
use native.Mathlib.Omega.{arith}
use lib.IntN.{pos, ◌+ℤ◌}
use lib.Signed.{shr_z}
use mir.Syntax.{w16}
use mir.Val.{to_z}
use mir.Facts.{to_z-of_z}
use Rattle.std.proofs.lemmas.Int.{to_z_pos}
use Rattle.laws.proofs.Signed.{E, val, loc, add, shr, bits, got, read}
use Rattle.filters.specs.Edge.{held}
use Rattle.filters.specs.Aside.{top_bits}
use Rattle.filters.proofs.Facts.{clamped}
use Rattle.filters.proofs.Quarters.{held_cut, top_few}
use Rattle.filters.proofs.held_quarter.Goals as goal

module _ (c : goal.After-clamp) where
  more : c.top_bits.result ≡ top_bits c.args.v
  more = rw (to_z-of_z c.ranges.v) at c.top_bits.ensures

  most : c.top_bits.result ≤ 3
  most = omega (arith, more, top_few c.args.v c.ranges.v.sfits)

  same : to_z w16 c.top_bits.result ≡ pos c.top_bits.result
  same = to_z_pos w16 c.top_bits.result (omega (arith, most))

  abbrev cut : E w16
  cut = let r = c.top_bits.result in shr (add (val 20992 c.args.v c.requires) (loc 3 r (pos r) same most)) 4

pub returns : goal.returns
returns c =
    got w16 c.clamp.type_inv (c.clamp.ensures.value ∙ clamped (to_z w16 (bits (cut c))))
    ∙ ap held (read (cut c) tt ∙ ap (λ n. shr_z (c.args.v +ℤ pos n) 4) (more c))
    ∙ held_cut c.args.v c.requires
