-- `placing::only_greys` meets its contract: the invariant: whether the pixels so far are greys. Assumes nothing.
use mathlib.Core.Path.{◌≡◌, sym, ap, ap₂, ◌∙◌}
use mathlib.Core.Bool.{Bool, ◌&&◌}
use native.Mathlib.Omega.{arith}
use Rattle.placing.specs.Placing.{each, only_greys}
use Rattle.placing.proofs.Each.{each_none, each_next}
use Rattle.placing.proofs.only_greys.Invariants.{greyIn}
use Rattle.placing.proofs.only_greys.Goals as goal

pub loop-v-init : goal.loop-v-init
loop-v-init c = sym (each_none _)

pub loop-v-preserved : goal.loop-v-preserved
loop-v-preserved c =
    let l = c.loop-v in
    ap₂ (λ (a b : Bool). a && b) l.invariant c.is_grey-all.ensures ∙ sym (each_next (greyIn c.args.pixels.now) l.v-index)

pub returns : goal.returns
unfolding only_greys
returns c =
    let l = c.loop-v in
    let e : l.v-index ≡ 14336 = omega arith in
    l.invariant ∙ ap (each _) e
