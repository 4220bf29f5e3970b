-- `salvaging::twice::after` meets its contract: each call of `next` passes a line, where there is one. Assumes nothing.
use Rattle.std.proofs.Common.{◌≡◌, ℕ, List, [], ◌∷◌, drop, drop-drop, refl, sym, ap, ◌∙◌, Bor, arith}
use Rattle.std.specs.Prelude.{Some, None, MatchOption}
use Rattle.std.specs.declared.option.Option.{Option}
use Rattle.script.specs.Text.{lines_of}
use Rattle.salvaging.specs.Kept.{accepted_of}
use Rattle.salvaging.proofs.twice.after.Goals as goal

passed : (r : Option (Bor (List ℕ))) (s t : List (List ℕ)) → MatchOption r ((s ≡ []) × (t ≡ [])) (λ x. s ≡ x.now ∷ t) → t ≡ drop 1 s
passed None s t e = e.1 ∙ sym (ap (drop 1) e.0)
passed (Some x) s t e = sym (ap (drop 1) e)

pub loop-init : goal.loop-init
loop-init c = refl

pub loop-preserved : goal.loop-preserved
loop-preserved c =
    let l = c.loop in
    passed _ _ _ c.next.ensures.steps ∙ ap (drop 1) l.invariant ∙ drop-drop 1 l.counter (accepted_of (lines_of c.args.script.now))

pub returns : goal.returns
returns c =
    let e : c.loop.counter ≡ c.args.n = omega arith in
    c.loop.invariant ∙ ap (λ k. drop k (accepted_of (lines_of c.args.script.now))) e
