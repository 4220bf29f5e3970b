-- `placing::put_area` meets its contract. The invariant: the bytes of the turns so far. Assumes nothing.
use mathlib.Core.Path.{◌≡◌, ap, ◌∙◌}
use mathlib.Core.List.{List}
use Prim.Native.Nat.{ℕ, ◌+◌, ◌*◌, ◌<◌}
use native.Mathlib.Omega.{arith}
use lib.ListN.{get_or}
use Rattle.laws.proofs.Packed.{listed_at}
use Rattle.placing.specs.Placing.{placed_byte, placed_area}
use Rattle.placing.specs.Aside.{lows_at, highs_at}
use Rattle.placing.proofs.Shown.{place_of, shown_to, shown_more, shown_all, shown_low, shown_high}
use Rattle.placing.proofs.put_area.Goals as goal

pub loop-t-init : goal.loop-t-init
loop-t-init c = (omega arith, shown_to _ c.loop-y.invariant.1 (omega arith))

pub loop-t-preserved : goal.loop-t-preserved
loop-t-preserved c =
    let l = c.loop-t in
    let y = c.loop-y.y in
    let t = l.t in
    let pixels = c.args.pixels.now in
    let h : t < 16 = omega arith in
    let low = ap (λ (n : List ℕ). get_or n t 0) c.pack.ensures.0 ∙ listed_at (λ t. lows_at pixels (128 * y + 8 * t)) 16 t h ∙ shown_low pixels y t h in
    let high = ap (λ (n : List ℕ). get_or n t 0) c.pack.ensures.1 ∙ listed_at (λ t. highs_at pixels (128 * y + 8 * t)) 16 t h ∙ shown_high pixels y t h in
    let e : c.pair_at-o.result ≡ place_of y t = c.pair_at-o.ensures in
    (omega arith, rw e (shown_to (placed_byte pixels) (shown_more (placed_byte pixels) y t _ _ l.area (omega arith) h l.invariant.1 low high) (omega arith)))

pub returns : goal.returns
unfolding placed_area
returns c = shown_all (placed_byte _) c.loop-y.invariant.1 (omega arith)
