-- Each exported function of script lines and scripts, case by case. Assumes nothing.
use mathlib.Core.Path.{◌≡◌, refl, sym, ap, ◌∙◌}
use mathlib.Core.List.{List, []}
use Prim.Native.Nat.{ℕ, ◌≤◌}
use lib.ListN.{length}
use native.Mathlib.Omega.{arith}
use Rattle.laws.proofs.Order.{split}
use Rattle.controller.specs.Table.{lowest}
use Rattle.controller.proofs.Refusals.{judged_ind}
use Rattle.lines.specs.declared.line.Frame.{Frame}
use Rattle.std.specs.declared.result.Result.{Result}
use Rattle.controller.specs.declared.Refusal.{Refusal}
use Rattle.salvaging.specs.declared.Salvaged.{Salvaged}
use Rattle.std.specs.Prelude.{Ok, Err}
use Rattle.recording.specs.Record.{Recording, recorded, record_means}
use Rattle.recording.proofs.Recorded.{record_most}
use Rattle.salvaging.specs.Salvage.{Salvaging, salvage_rows, salvage_done, salvage_means, salvaged_as}
use Rattle.salvaging.proofs.Cleaned.{cleaned_long, lines_few}
use Rattle.salvaging.proofs.Outcomes.{salvage_long}
use Rattle.answers.specs.Called.{filled}
use Rattle.recorder.specs.Recorder.{as_line, record_bytes, reported, as_reported, salvage_bytes}

-- ---- a frame written as a line

-- an answer's length is that of its outcome, and so is the answer, whatever the buffer holds
recorded_length : (a : Result ℕ Refusal) (out : List ℕ) → (recorded a []).length ≡ (recorded a out).length
recorded_length (Ok n) out = refl
recorded_length (Err why) out = refl

recorded_answer : (a : Result ℕ Refusal) (out : List ℕ) → filled (as_line (recorded a [])).answer out ≡ as_line (recorded a out)
recorded_answer (Ok n) out = refl
recorded_answer (Err why) out = refl

module _ (f : Frame) (bytes out : List ℕ) (a : Result ℕ Refusal) (left : List ℕ) (means : recorded a left ≡ record_means f bytes out) where
  pub record_short : (recorded a []).length ≤ 261
  record_short = rw (recorded_length a left ∙ ap (λ (r : Recording). r.length) means) (record_most f bytes out)

  pub record_filled : (p : ℕ) → p ≡ (as_line (recorded a [])).answer → filled p left ≡ record_bytes f bytes out
  unfolding record_bytes
  record_filled p q = ap (λ n. filled n left) q ∙ recorded_answer a left ∙ ap as_line means

-- ---- a script salvaged

-- a salvage of at most 32,768 lines and 32,769 bytes
pub record Most (o : Salvaging) : Type 0 where
  pub lines : o.lines ≤ 32768
  pub length : o.length ≤ 32769

short_most : (script text report : List ℕ) → length script ≤ 32768 → Most (salvage_means script text report)
unfolding salvage_means salvage_done
short_most script text report h =
    judged_ind Most (lowest (salvage_rows script text report)) (λ k. record { lines = omega arith; length = omega arith })
    (record { lines = omega (arith, h, lines_few script); length = omega (arith, h, cleaned_long script) })

pub salvage_most : (script text report : List ℕ) → Most (salvage_means script text report)
salvage_most script text report =
    split 32768 (length script)
    (λ h. rw (salvage_long script text report h) (record { lines = omega arith; length = omega arith }))
    (λ h. short_most script text report h)

module _ (script text report : List ℕ) (r : Result Salvaged Refusal) (text' report' : List ℕ) (means : salvaged_as r text' report' ≡ salvage_means script text report) where
  salvage_is : (x : Result Salvaged Refusal) → r ≡ x → salvaged_as x text' report' ≡ salvage_means script text report
  salvage_is x f = ap (λ y. salvaged_as y text' report') (sym f) ∙ means

  pub cleaned_most : (s : Salvaged) → r ≡ Ok s → (s.lines ≤ 32768) × (s.length ≤ 32769)
  cleaned_most s f =
      let o : Most (salvaged_as (Ok s) text' report') = rw (salvage_is (Ok s) f) (salvage_most script text report) in
      (o.lines, o.length)

  pub salvage_reported : (x : Result Salvaged Refusal) → r ≡ x → (p : ℕ) → p ≡ (as_reported (salvaged_as x text' report')).answer → reported p text' report' ≡ salvage_bytes script text report
  unfolding salvage_bytes
  salvage_reported (Ok s) f p q = (λ i. reported (q i) text' report') ∙ ap as_reported (salvage_is (Ok s) f)
  salvage_reported (Err why) f p q = (λ i. reported (q i) text' report') ∙ ap as_reported (salvage_is (Err why) f)
