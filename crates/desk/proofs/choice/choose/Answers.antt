-- `desk::choice::choose` meets its contract: it is judged, and then done. Assumes nothing.
use mathlib.Core.Path.{ap, ◌∙◌}
use mathlib.Core.List.{List, []}
use Prim.Native.Nat.{ℕ}
use Rattle.controller.specs.Outcome.{outcome}
use Rattle.controller.proofs.Refusals.{by_why, by_fits, fits_none}
use Rattle.desk.specs.Choice.{with_registers}
use Rattle.desk.proofs.Choices.{choose_refuses, choose_fits}
use Rattle.desk.proofs.choice.choose.Goals as goal

pub returns-in-Err : goal.returns-in-Err
returns-in-Err c = by_why (choose_refuses _ _ _ _ _) _ c.judge_choice.ensures _ c.in-Err.is

pub put_choice-registers-requires : goal.put_choice-registers-requires
put_choice-registers-requires c =
    let f = choose_fits _ _ _ (fits_none _ _ c.judge_choice.ensures c.in_default.is) in
    (f.light_fits, f.level_fits)

pub returns : goal.returns
unfolding with_registers
returns c =
    let a = c.args in
    ap (λ (r : List ℕ). outcome 0 0 (with_registers a.state r) [] []) c.put_choice-registers.ensures
    ∙ by_fits (choose_refuses _ _ _ _ _) _ c.judge_choice.ensures c.in_default.is
