-- `script::text::finish` meets its contract: no line has begun, or the one held is carried out. Assumes nothing.
use borrow.Author.Rules.{rules}
use mathlib.Core.Path.{◌≡◌, sym, ap, ◌∙◌}
use native.Mathlib.Omega.{arith}
use lib.ListN.{length, take}
use lib.Seq.{length-take-le}
use Rattle.session.specs.Session.{world, step_of}
use Rattle.session.specs.Aside.{saying}
use Rattle.script.proofs.Feeds.{finish_none, finish_some}
use Rattle.script.proofs.text.finish.Goals as goal

pub returns-then-held-eq0 : goal.returns-then-held-eq0
returns-then-held-eq0 c =
    let e = sym c.min-held.ensures ∙ c.if-held-eq0.true in
    (sym (ap saying (finish_none _ _ _ e)), omega arith)

pub returns : goal.returns
returns c =
    let a = c.args in
    let long : length c.args.reader.line ≡ 261 = search rules in
    let m = c.min-held.ensures in
    let d = c.step.ensures in
    (d.0 ∙ ap saying (ap (λ h. step_of a.rom.now (world a.state a.ram.now a.store.now a.image.now) (take h a.reader.line)) m ∙ sym (finish_some _ _ _ long (λ z. c.if-held-eq0.false (m ∙ z)))), d.1)

pub slice_bounds-line-end : goal.slice_bounds-line-end
slice_bounds-line-end c = let long : length c.args.reader.line ≡ 261 = search rules in omega (arith, long)

pub slice_bounds-step-end : goal.slice_bounds-step-end
slice_bounds-step-end c =
    let long : length c.args.reader.line ≡ 261 = search rules in
    sym (length-take-le _ _ (omega (arith, long)))
