-- `desk::choice::put_choice` meets its contract: the table of the code is the definition's, compared value by value. Assumes nothing.
use mathlib.Core.Path.{ap, ◌∙◌}
use mathlib.Core.List.{List}
use Prim.Native.Nat.{ℕ}
use Rattle.desk.specs.Levels.{levels}
use Rattle.desk.specs.Choice.{value_of, stored, timed, registers_chosen}
use Rattle.desk.proofs.choice.put_choice.Goals as goal

pub returns : goal.returns
unfolding levels value_of registers_chosen
returns c =
    let a = c.args in
    c.put_matrix.ensures
    ∙ ap (λ (r : List ℕ). stored r 6 (value_of a.light a.level a.plain) 48) (c.put_exposure-timed.ensures ∙ ap (λ (n : ℕ). timed a.regs n) c.steps.ensures)
