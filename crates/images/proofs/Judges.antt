-- The exported judging of a plate: what it answers and leaves, and that a refusal leaves every byte. Assumes nothing.
use mathlib.Core.Path.{◌≡◌, refl, sym, ap, ◌∙◌}
use mathlib.Core.List.{List}
use Prim.Native.Nat.{ℕ, zero, suc, ◌/◌, ◌<◌}
use native.Mathlib.Omega.{arith}
use Rattle.controller.specs.Table.{lowest}
use Rattle.std.specs.declared.result.Result.{Result}
use Rattle.controller.specs.declared.Refusal.{Refusal}
use Rattle.std.specs.Prelude.{Ok, Err}
use Rattle.judging.specs.Judging.{afresh_of, answered, judged_by, judge_rows, judge_means}
use Rattle.judging.proofs.Outcomes.{judge_refuses}
use Rattle.judging.proofs.Whose.{equal_most}
use Rattle.shades.specs.Shades.{output_number, output_value}
use Rattle.answers.specs.Packed.{packed}
use Rattle.answers.specs.Called.{filled}
use Rattle.images.specs.Judges.{as_judged, judge_bytes}
use Rattle.answers.proofs.Kept.{kept}
use Rattle.answers.proofs.Only.{Says, packed_says}

module _ (plate frame regs rows : List ℕ) where
  pub judge_answered : (r : Result ℕ Refusal) (rows' : List ℕ) → answered r rows' ≡ judge_means plate frame regs rows
      → (p : ℕ) → p ≡ packed (output_number r) (output_value r) → filled p rows' ≡ judge_bytes plate frame regs rows
  unfolding judge_bytes
  judge_answered r rows' e p q = (λ i. filled (q i) rows') ∙ same r ∙ ap as_judged e
    where
      same : (x : Result ℕ Refusal) → filled (packed (output_number x) (output_value x)) rows' ≡ as_judged (answered x rows')
      same (Ok n) = refl
      same (Err why) = refl

  -- number and value in the answer
  judge_small : (judge_means plate frame regs rows).equal < 4294967296
  unfolding judged_by
  judge_small = by_number (lowest (judge_rows frame rows)) refl
    where
      by_number : (n : ℕ) → lowest (judge_rows frame rows) ≡ n → (judge_means plate frame regs rows).equal < 4294967296
      by_number zero e = rw ((judge_refuses plate frame regs rows).does e) (omega (arith, equal_most plate (afresh_of frame regs) 112))
      by_number (suc n) e = rw ((judge_refuses plate frame regs rows).kept n e) (omega arith)

  pub judge_says : Says (judge_bytes plate frame regs rows).answer (judge_means plate frame regs rows).number (judge_means plate frame regs rows).equal
  unfolding judge_bytes
  judge_says = packed_says _ _ judge_small

  -- a refusal leaves every byte
  pub judge_kept : (0 ≡ (judge_bytes plate frame regs rows).answer / 4294967296 → ⊥) → (judge_bytes plate frame regs rows).bytes ≡ rows
  unfolding judge_bytes
  judge_kept some = λ i. (kept (judge_refuses plate frame regs rows) (judge_means plate frame regs rows).number (λ z. some (z ∙ sym judge_says.number)) refl i).rows
