-- `recorder::step::gulxinett_step` meets its contract: it is judged, and then the line carried out. Assumes nothing.
use mathlib.Core.Path.{◌≡◌, ap, ◌∙◌}
use mathlib.Core.Bool.{true}
use Prim.Native.Nat.{◌≤◌}
use native.Mathlib.Omega.{arith}
use lib.ListN.{length}
use borrow.Author.Rules.{rules}
use Rattle.controller.proofs.Refusals.{by_why, by_fits, fits_none}
use Rattle.layout.specs.Layout.{is_record}
use Rattle.recorder.specs.Steps.{stepped}
use Rattle.recorder.proofs.Steps.{step_fits, step_refuses, step_done}
use Rattle.recorder.proofs.step.gulxinett_step.Goals as goal

pub returns-in-Err : goal.returns-in-Err
returns-in-Err c =
    let a = c.args in
    ap (λ p. stepped p a.state.now a.ram.now a.store.now a.image.now a.out.now) c.refused.ensures
    ∙ by_why (step_refuses _ _ _ _ _ _ _) _ c.judge_step.ensures _ c.in-Err.is

pub line_done-length-requires : goal.line_done-length-requires
line_done-length-requires c =
    let f : (is_record c.args.state.now ≡ true) × (11 ≤ length c.args.out.now) = step_fits _ _ (fits_none _ _ c.judge_step.ensures c.in_default.is) in
    (f.0, omega (arith, f.1))

pub returns : goal.returns
returns c =
    let a = c.args in
    let p = c.line_done-length in
    step_done a.state.now a.rom.now a.ram.now a.store.now a.image.now a.line.now a.out.now
    p.new.state p.new.ram p.new.store p.new.image p.new.out p.result c.pack.result
    (λ k. search rules) p.ensures.1 p.ensures.0 c.pack.ensures
    ∙ by_fits (step_refuses a.state.now a.rom.now a.ram.now a.store.now a.image.now a.line.now a.out.now) c.judge_step.result c.judge_step.ensures c.in_default.is
