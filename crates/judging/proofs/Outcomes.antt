-- A plate judged: how many rows are equal, when a judging is refused, and that no second outcome fits. Assumes nothing.
use mathlib.Core.Path.{◌≡◌, refl, sym, ap, ap₂, ◌∙◌}
use mathlib.Core.Bool.{true}
use mathlib.Core.List.{List, ◌++◌}
use Prim.Native.Nat.{ℕ, ◌+◌, ◌≤◌}
use native.Mathlib.Numerals.{add-one}
use lib.ListN.{length, drop}
use borrow.Author.Tests.{ltb-false}
use Rattle.laws.specs.Lists.{listed}
use Rattle.laws.proofs.Bools.{not_fails}
use Rattle.timing.specs.Lent.{frame_allowed}
use Rattle.controller.specs.Table.{lowest}
use Rattle.controller.specs.Picture.{afresh, picture_rows, picture_means}
use Rattle.controller.proofs.Only.{only_number, some_number}
use Rattle.controller.proofs.Refusals.{Refuses, refuses, rising_from, first_fails, picture_refuses}
use Rattle.std.specs.declared.result.Result.{Result}
use Rattle.controller.specs.declared.Refusal.{Refusal}
use Rattle.std.specs.Prelude.{⊤, Ok, Err}
use Rattle.controller.specs.Outcome.{verdict_number}
use Rattle.judging.specs.Judging.{row_judged, rows_equal, afresh_of, Judging, judging, answered, judged_by, judge_rows, judge_means}

-- none of no rows, and one row more
module _ (plate picture : List ℕ) where
  pub equal_none : 0 ≡ rows_equal plate picture 0
  unfolding rows_equal
  equal_none = refl

  pub equal_more : (n equal row : ℕ) → equal ≡ rows_equal plate picture n → row ≡ row_judged plate picture n → equal + row ≡ rows_equal plate picture (n + 1)
  unfolding rows_equal
  equal_more n equal row e r = simp add-one (ap₂ (λ (a b : ℕ). a + b) e r)

abbrev pub in_judging : Judging → ℕ
in_judging j = j.number

-- a judging: 4, then 7
pub judge_refuses : (plate frame regs rows : List ℕ) → Refuses (judge_rows frame rows) in_judging (λ n. judging n 0 rows) (judge_means plate frame regs rows) (judged_by plate (afresh_of frame regs) rows)
unfolding judge_rows judge_means judged_by rising_from
judge_refuses plate frame regs rows =
    refuses (judge_rows frame rows) in_judging (λ n. judging n 0 rows) (judged_by plate (afresh_of frame regs) rows) (λ n. refl) refl refl

-- what is so where neither is given
pub judge_fits : (frame rows : List ℕ) → lowest (judge_rows frame rows) ≡ 0 → (frame_allowed (length frame) ≡ true) × (112 ≤ length rows)
unfolding judge_rows
judge_fits frame rows e =
    let f = first_fails _ _ e in
    let r = first_fails _ _ f.1 in
    (not_fails _ f.0, ltb-false (length rows) 112 r.0)

-- the picture drawn of a frame of that size is the picture afresh
pub drawn : (frame regs out picture : List ℕ) (n : ℕ) → frame_allowed (length frame) ≡ true → afresh n picture ≡ picture_means frame regs out → picture ≡ afresh_of frame regs
unfolding picture_rows lowest
drawn frame regs out picture n f e =
    let z : lowest (picture_rows frame) ≡ 0 = rw f in
    (λ i. (e i).bytes) ∙ (λ i. ((picture_refuses frame regs out).does z i).bytes)

-- and drawing it is not refused
pub drawn_fits : (frame regs out picture : List ℕ) (v : Result ⊤ Refusal) (why : Refusal) → frame_allowed (length frame) ≡ true → afresh (verdict_number v) picture ≡ picture_means frame regs out → v ≡ Err why → ⊥
unfolding picture_rows lowest
drawn_fits frame regs out picture v why f e w =
    let z : lowest (picture_rows frame) ≡ 0 = rw f in
    some_number why (sym ((λ i. (e i).number) ∙ (λ i. ((picture_refuses frame regs out).does z i).number)) ∙ ap verdict_number w)

-- rows judged by it
pub judged_rows : (plate picture picture' rows part : List ℕ) (equal : ℕ) → picture ≡ picture' → part ≡ listed (row_judged plate picture) 112 → equal ≡ rows_equal plate picture 112
    → judging 0 equal (part ++ drop 112 rows) ≡ judged_by plate picture' rows
unfolding judged_by
judged_rows plate picture picture' rows part equal p q r =
    ap₂ (λ (l : List ℕ) (n : ℕ). judging 0 n (l ++ drop 112 rows)) q r
    ∙ ap (λ (l : List ℕ). judging 0 (rows_equal plate l 112) (listed (row_judged plate l) 112 ++ drop 112 rows)) p

-- one answer, and one list of bytes
pub only_judge : (r s : Result ℕ Refusal) (rows rows' : List ℕ) → answered r rows ≡ answered s rows' → (r ≡ s) × (rows ≡ rows')
only_judge (Ok n) (Ok m) rows rows' e = (λ i. Ok (e i).equal, λ i. (e i).rows)
only_judge (Ok n) (Err w) rows rows' e = absurd (some_number w (λ i. (e i).number))
only_judge (Err w) (Ok m) rows rows' e = absurd (some_number w (sym (λ i. (e i).number)))
only_judge (Err w) (Err v) rows rows' e = (ap Err (only_number w v (λ i. (e i).number)), λ i. (e i).rows)
