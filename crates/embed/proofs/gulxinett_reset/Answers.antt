-- `embed::gulxinett_reset` meets its contract: the bytes of the reset record, or refusal 1 where there is no room for them. Assumes nothing.
use mathlib.Core.Path.{sym, ap, ◌∙◌}
use mathlib.Core.List.{[]}
use borrow.Author.Tests.{eq-eqb, ne_eqb}
use Rattle.layout.specs.Layout.{encoded}
use Rattle.answers.specs.Called.{called}
use Rattle.embed.proofs.Cases.{reset_short, reset_done}
use Rattle.embed.proofs.gulxinett_reset.Goals as goal

pub returns-then-state-ne-STATE_LEN : goal.returns-then-state-ne-STATE_LEN
returns-then-state-ne-STATE_LEN c =
    let s = c.args.state.now in
    ap (λ p. called p s [] []) c.refused.ensures ∙ sym (reset_short s (ne_eqb _ _ c.if-state-ne-STATE_LEN.true))

pub returns : goal.returns
returns c =
    let s = c.args.state.now in
    let p = c.pack.ensures in
    let t = c.encode.ensures ∙ ap encoded c.reset.ensures in
    (λ i. called (p i) (t i) [] []) ∙ sym (reset_done s (eq-eqb _ _ c.if-state-ne-STATE_LEN.false))
