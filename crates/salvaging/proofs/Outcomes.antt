-- A salvage: when it is refused, and that no second outcome fits. Assumes nothing.
use mathlib.Core.Path.{◌≡◌, refl, sym, ap, ◌∙◌}
use mathlib.Core.Logic.{◌↔◌, ◌⊎◌, inl, inr, ⊎_elim}
use mathlib.Core.Bool.{Bool, true, false}
use mathlib.Core.List.{List, [], ◌∷◌}
use Prim.Native.Nat.{ℕ, ◌<◌, ◌≤◌}
use native.Mathlib.Omega.{arith}
use lib.Dec.{ltb}
use lib.ListN.{length}
use borrow.Author.Tests.{lt-ltb, le-ltb, ltb-true, ltb-false}
use Rattle.laws.specs.Pick.{pick}
use Rattle.laws.proofs.Order.{split}
use Rattle.laws.proofs.Bools.{either, not_both}
use Rattle.laws.proofs.Pick.{pick_one}
use Rattle.controller.specs.Outcome.{number_of, verdict_number}
use Rattle.controller.proofs.Judging.{refused, passed, last}
use Rattle.controller.specs.Table.{Row, no_room, before, lowest, judged}
use Rattle.controller.proofs.Only.{only_number, some_number}
use Rattle.controller.proofs.Refusals.{Refuses, refuses, row_holds, rising_from, first_fails}
use Rattle.script.specs.Text.{lines_of}
use Rattle.std.specs.declared.result.Result.{Result}
use Rattle.controller.specs.declared.Refusal.{Refusal}
use Rattle.salvaging.specs.declared.Salvaged.{Salvaged}
use Rattle.std.specs.Prelude.{⊤, Ok, Err}
use Rattle.salvaging.specs.Salvage.{cleaned, too_long, text_short, report_short, salvage_rows, Salvaging, unsalvaged, salvage_done, salvage_means, salvaged_as}

-- the rows of the two buffers
unfoldable pub room_rows : List ℕ → List ℕ → List ℕ → List Row
room_rows script text report = text_short script text ∷ report_short script report ∷ []

abbrev pub in_salvaging : Salvaging → ℕ
in_salvaging o = o.number

-- which of two rows of one number holds
one_of : (a b : Bool) → ◌≡◌ {A = ℕ} (pick a 7 (pick b 7 0)) 7 → (a ≡ true) ⊎ (b ≡ true)
one_of true b e = inl refl
one_of false true e = inr refl
one_of false false e = absurd (omega arith)

module _ (script text report : List ℕ) where
  long_rows : 32768 < length script → lowest (salvage_rows script text report) ≡ 12
  unfolding salvage_rows lowest
  long_rows h = simp (lt-ltb 32768 (length script) h)

  short_rows : length script ≤ 32768 → lowest (salvage_rows script text report) ≡ lowest (room_rows script text report)
  unfolding salvage_rows room_rows lowest
  short_rows h = simp (le-ltb 32768 (length script) h)

  -- 12 for a script over the size, whatever the buffers
  pub salvage_long : 32768 < length script → salvage_means script text report ≡ unsalvaged text report 12
  unfolding salvage_means
  salvage_long h = ap (λ n. judged n (unsalvaged text report) (salvage_done script text report)) (long_rows h)

  -- and any other by the lowest number of the rows of its buffers, and only then
  pub salvage_short : length script ≤ 32768
      → Refuses (room_rows script text report) in_salvaging (unsalvaged text report) (salvage_means script text report) (salvage_done script text report)
  unfolding salvage_means room_rows rising_from salvage_done
  salvage_short h =
      rw (short_rows h)
      (refuses (room_rows script text report) in_salvaging (unsalvaged text report) (salvage_done script text report) (λ n. refl) refl refl)

  -- what is so where it is not refused
  pub salvage_fits : lowest (room_rows script text report) ≡ 0 → (length (cleaned script) ≤ length text) × (length (lines_of script) ≤ length report)
  unfolding room_rows
  salvage_fits e =
      let t = first_fails _ _ e in
      let r = first_fails _ _ t.1 in
      (ltb-false (length text) (length (cleaned script)) t.0, ltb-false (length report) (length (lines_of script)) r.0)

  -- the buffers, judged: the text's is too short, or the report's is asked
  pub room_refused : (long : ℕ) (why : Refusal) → long ≡ length (cleaned script) → number_of why ≡ before (no_room long (length text)) 0 → number_of why ≡ lowest (room_rows script text report)
  unfolding room_rows
  room_refused long why e p = refused _ _ why (rw e at p)

  pub room_passed : (long many n : ℕ) → long ≡ length (cleaned script) → many ≡ length (lines_of script)
      → 0 ≡ before (no_room long (length text)) 0 → n ≡ before (no_room many (length report)) 0 → n ≡ lowest (room_rows script text report)
  unfolding room_rows
  room_passed long many n e f p q = passed _ _ n (rw e at p) (last _ n (rw f at q))

  -- 12 is given exactly when the script is over 32,768 bytes
  pub twelve_exactly : ((salvage_means script text report).number ≡ 12) ↔ (32768 < length script)
  unfolding room_rows row_holds
  twelve_exactly = (
    λ e. split 32768 (length script) (λ h. h) (λ h. not_both (((salvage_short h).exact 11).0 e).holds refl),
    λ h. ap in_salvaging (salvage_long h),
  )

  -- and 7 exactly when it is not and one of the buffers is too short
  pub seven_exactly : ((salvage_means script text report).number ≡ 7) ↔ ((length script ≤ 32768) × ((length text < length (cleaned script)) ⊎ (length report < length (lines_of script))))
  unfolding room_rows lowest
  seven_exactly = (
    λ e. split 32768 (length script)
        (λ h. absurd (omega (arith, e, ap in_salvaging (salvage_long h))))
        (λ h. (h, ⊎_elim (λ t. inl (ltb-true (length text) (length (cleaned script)) t)) (λ r. inr (ltb-true (length report) (length (lines_of script)) r)) (one_of _ _ (sym (salvage_short h).numbered ∙ e)))),
    λ g. (salvage_short g.0).numbered ∙ ⊎_elim (λ t. simp (lt-ltb (length text) (length (cleaned script)) t)) (λ r. simp (lt-ltb (length report) (length (lines_of script)) r) (pick_one (ltb (length text) (length (cleaned script))) 7)) g.1,
  )

-- the first row, judged
pub too_long_judged : (script : List ℕ) (v : Result ⊤ Refusal) → verdict_number v ≡ before (too_long script) 0 → (why : Refusal) → v ≡ Err why → (32768 < length script) × (number_of why ≡ 12)
too_long_judged script v e why f =
    let n : number_of why ≡ before (too_long script) 0 = sym (ap verdict_number f) ∙ e in
    either (ltb 32768 (length script)) (λ t. (ltb-true 32768 (length script) t, simp t at n)) (λ t. absurd (some_number why (sym (simp t at n))))

pub not_long_judged : (script : List ℕ) (v : Result ⊤ Refusal) → verdict_number v ≡ before (too_long script) 0 → {x : ⊤} → v ≡ Ok x → length script ≤ 32768
not_long_judged script v e {x} f =
    let n : 0 ≡ before (too_long script) 0 = sym (ap verdict_number f) ∙ e in
    either (ltb 32768 (length script)) (λ t. absurd (omega (arith, simp t at n))) (λ t. ltb-false 32768 (length script) t)

-- one answer, and one list of bytes for each buffer
pub only_salvage : (r s : Result Salvaged Refusal) (text text' report report' : List ℕ) → salvaged_as r text report ≡ salvaged_as s text' report' → (r ≡ s) × (text ≡ text') × (report ≡ report')
only_salvage (Ok c) (Ok d) text text' report report' e = (λ i. Ok (record { length = (e i).length; lines = (e i).lines }), λ i. (e i).text, λ i. (e i).report)
only_salvage (Ok c) (Err v) text text' report report' e = absurd (some_number v (λ i. (e i).number))
only_salvage (Err w) (Ok d) text text' report report' e = absurd (some_number w (sym (λ i. (e i).number)))
only_salvage (Err w) (Err v) text text' report report' e = (ap Err (only_number w v (λ i. (e i).number)), λ i. (e i).text, λ i. (e i).report)
