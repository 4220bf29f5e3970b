-- A choice: when it is refused, and that no second outcome fits. Assumes nothing.
use mathlib.Core.Path.{◌≡◌, refl}
use mathlib.Core.Bool.{Bool, true, false, not}
use mathlib.Core.List.{[]}
use Prim.Native.Nat.{ℕ, ◌≤◌}
use lib.Dec.{eqb, ltb}
use borrow.Author.Tests.{ltb-false}
use Rattle.laws.specs.Pick.{pick}
use Rattle.controller.specs.declared.Controller.{Controller}
use Rattle.controller.specs.declared.Done.{Done}
use Rattle.std.specs.Prelude.{⊤}
use Rattle.controller.specs.State.{cant_exist}
use Rattle.controller.specs.Outcome.{write_outcome}
use Rattle.controller.specs.Outcome.{refusal}
use Rattle.controller.specs.Table.{lowest}
use Rattle.laws.proofs.Bools.{neither_left, neither_right}
use Rattle.controller.proofs.Only.{only_write}
use Rattle.controller.proofs.Refusals.{Refuses, in_outcome, refuses, rising_from, first_fails}
use Rattle.std.specs.declared.option.Option.{Option}
use Rattle.desk.specs.Stored.{stored_means, type_slide, pinned_beetle, herbarium_sheet}
use Rattle.desk.specs.Choice.{beyond, choose_rows, chosen, choose_means}

module _ (c : Controller) (light level : ℕ) where
  -- a choice is refused by the lowest number of its rows, and only then
  pub choose_refuses : (plain : Bool) (exposure : Option ℕ) → Refuses (choose_rows c light level) in_outcome (refusal c [] []) (choose_means c light level plain exposure) (chosen c light level plain exposure)
  unfolding choose_rows choose_means rising_from
  choose_refuses plain exposure =
      refuses (choose_rows c light level) in_outcome (refusal c [] []) (chosen c light level plain exposure) (λ n. refl) refl refl

  -- what is so where it is not
  pub record ChooseFits : Type 0 where
    pub exists : cant_exist c ≡ false
    pub light_fits : light ≤ 1
    pub level_fits : level ≤ 15

  pub choose_fits : lowest (choose_rows c light level) ≡ 0 → ChooseFits
  unfolding choose_rows
  choose_fits e =
      let s = first_fails _ _ e in
      let n = (first_fails _ _ s.1).0 in
      record {
        exists = s.0;
        light_fits = ltb-false 1 light (neither_left _ _ n);
        level_fits = ltb-false 15 level (neither_right (ltb 1 light) _ n);
      }

  -- no number is given to a state that can exist just where the light set and the level are ones of the table
  pub choose_none : cant_exist c ≡ false → eqb (lowest (choose_rows c light level)) 0 ≡ not (beyond light level)
  unfolding choose_rows lowest
  choose_none e = rw e (by_test (beyond light level))
    where
      by_test : (b : Bool) → eqb (pick b 9 0) 0 ≡ not b
      by_test true = refl
      by_test false = refl

-- one answer and one state
pub only_choose : (r s : Done ⊤) → write_outcome r [] [] ≡ write_outcome s [] [] → r ≡ s
only_choose r s e = (only_write r s [] [] [] [] e).0

-- the choices known by name are ones of the table: a state that can exist is never refused one
pub named_fit : (c : Controller) → cant_exist c ≡ false → ((stored_means c type_slide).number ≡ 0) × ((stored_means c pinned_beetle).number ≡ 0) × ((stored_means c herbarium_sheet).number ≡ 0)
unfolding choose_means choose_rows lowest
named_fit c e = (rw e, rw e, rw e)
