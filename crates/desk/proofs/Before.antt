-- What an exposure that is not named meant before #110, kept for the statements here alone: no definition, contract or other proof has it.
-- Assumes nothing.
use mathlib.Core.Path.{◌≡◌, refl}
use mathlib.Core.Bool.{Bool, true, false}
use mathlib.Core.List.{[]}
use Prim.Native.Nat.{ℕ}
use Rattle.controller.specs.declared.Controller.{Controller}
use Rattle.controller.specs.Outcome.{Outcome, outcome}
use Rattle.controller.specs.Table.{lowest, judged}
use Rattle.controller.specs.Outcome.{refusal}
use Rattle.std.specs.declared.option.Option.{Option}
use Rattle.std.specs.Prelude.{Some, None}
use Rattle.desk.specs.Choice.{value_of, stored, timed, registers_chosen, with_registers, choose_rows, choose_means}
use Rattle.desk.specs.Stored.{stored_means, type_slide, pinned_beetle, herbarium_sheet}

-- left unnamed, it was 0300h
abbrev pub steps_before : Option ℕ → ℕ
steps_before (Some n) = n
steps_before None = 0x0300

module _ (c : Controller) where
  -- a choice by that meaning
  abbrev pub choose_before : ℕ → ℕ → Bool → Option ℕ → Outcome
  choose_before light level plain exposure =
      judged (lowest (choose_rows c light level)) (refusal c [] [])
      (outcome 0 0 (with_registers c (stored (timed c.registers (steps_before exposure)) 6 (value_of light level plain) 48)) [] [])

  -- a bright table left it unnamed
  abbrev pub bright_before : ℕ → Bool → Outcome
  bright_before level plain = choose_before 0 level plain None

  -- the state that each choice known by name gets, refused or not, is the same as before
  pub examples_same : (stored_means c type_slide ≡ bright_before 11 true) × (stored_means c pinned_beetle ≡ bright_before 7 false) × (stored_means c herbarium_sheet ≡ bright_before 4 false)
  unfolding choose_means registers_chosen
  examples_same = (refl, refl, refl)

  -- every named exposure is unaffected
  pub named_same : (light level : ℕ) (plain : Bool) (n : ℕ) → choose_means c light level plain (Some n) ≡ choose_before light level plain (Some n)
  unfolding choose_means registers_chosen
  named_same light level plain n = refl

  -- left unnamed, it is as if 1000h were named
  pub unnamed_now : (light level : ℕ) (plain : Bool) → choose_means c light level plain None ≡ choose_means c light level plain (Some 0x1000)
  unfolding choose_means registers_chosen
  unnamed_now light level plain = refl
