-- Each refusal number is given exactly when its row of the table holds and no lower one does; a refused call changes nothing.
-- Assumes nothing.
use Rattle.std.proofs.Common.{◌≡◌, ℕ, zero, suc, ◌<◌, ◌≤◌, Bool, true, false, ◌&&◌, ◌||◌, eqb, ltb, leb, ◌↔◌, List, [], ◌∷◌, length, sym, refl, ap, ◌∙◌, arith, eq-eqb, ne_eqb, leb-true}
use mathlib.Core.Bool.{and-false}
use Rattle.laws.specs.Pick.{pick}
use Rattle.laws.proofs.Order.{split}
use Rattle.laws.proofs.Pick.{pick_ind}
use Rattle.laws.proofs.Bools.{either, not_both, both_left, both_right, not_fails}
use Rattle.lighting.specs.Taken.{setting_of}
use Rattle.lighting.specs.Light.{lit_of}
use Rattle.tiles.specs.Picture.{picture_of}
use Rattle.controller.specs.declared.Controller.{Controller}
use Rattle.controller.specs.declared.Refusal.{Refusal}
use Rattle.std.specs.Prelude.{⊤, Ok, Err}
use Rattle.std.specs.declared.result.Result.{Result}
use Rattle.timing.specs.Lent.{frame_allowed}
use Rattle.controller.specs.Outcome.{Outcome, Inspection, number_of, verdict_number}
use Rattle.controller.specs.Table.{Row, lowest, judged}
use Rattle.controller.specs.Picture.{Afresh, afresh, picture_rows, picture_means}
use Rattle.matrix.specs.Matrix.{first_in}
use Rattle.controller.specs.Inspect.{named, no_element, inspect_rows, inspect_means}
use Rattle.controller.proofs.Only.{some_number}

-- a row of this number holds
unfoldable pub row_holds : ℕ → List Row → Bool
row_holds n [] = false
row_holds n (r ∷ rows) = (eqb (number_of r.why) n && r.holds) || row_holds n rows

-- the rows stand by their numbers, from n on
unfoldable pub rising_from : ℕ → List Row → Bool
rising_from n [] = true
rising_from n (r ∷ rows) = leb n (number_of r.why) && rising_from (number_of r.why) rows

-- the row of a number holds, and no lower one does
pub record Given (rows : List Row) (n : ℕ) : Type 0 where
  pub holds : row_holds n rows ≡ true
  pub lower : (m : ℕ) → m < n → row_holds m rows ≡ false

-- no row has a number below the first
below : (n : ℕ) (rows : List Row) → rising_from n rows ≡ true → (m : ℕ) → m < n → row_holds m rows ≡ false
unfolding row_holds rising_from
below n [] up m h = refl
below n (r ∷ rows) up m h =
    let k : n ≤ number_of r.why = leb-true n (number_of r.why) (both_left _ (rising_from (number_of r.why) rows) up) in
    simp (ne_eqb (number_of r.why) m (λ e. omega arith)) (below (number_of r.why) rows (both_right (leb n (number_of r.why)) _ up) m (omega arith))

-- where no number is given, the first row does not hold, and none of the others
pub first_fails : (r : Row) (rows : List Row) → lowest (r ∷ rows) ≡ 0 → (r.holds ≡ false) × (lowest rows ≡ 0)
unfolding lowest
first_fails r rows e =
    either r.holds
    (λ t. absurd (some_number r.why (sym (sym (ap (λ b. pick b (number_of r.why) (lowest rows)) t) ∙ e))))
    (λ f. (f, sym (ap (λ b. pick b (number_of r.why) (lowest rows)) f) ∙ e))

-- where no number is given, no row holds
pub none_holds : (rows : List Row) → lowest rows ≡ 0 → (m : ℕ) → row_holds m rows ≡ false
unfolding lowest row_holds
none_holds [] e m = refl
none_holds (r ∷ rows) e m =
    let f = first_fails r rows e in
    simp (f.0, and-false) (none_holds rows f.1 m)

-- a number given is a row that holds, and no lower row does; and the other way round
pub given : (n : ℕ) (rows : List Row) → rising_from n rows ≡ true → (k : ℕ) → lowest rows ≡ suc k → Given rows (suc k)
unfolding lowest row_holds rising_from
given n [] up k e = absurd (omega arith)
given n (r ∷ rows) up k e =
    either r.holds
    (λ t.
    let here : number_of r.why ≡ suc k = sym (ap (λ b. pick b (number_of r.why) (lowest rows)) t) ∙ e in
    record {
      holds = simp (t, eq-eqb (number_of r.why) (suc k) here);
      lower = λ m h. simp (ne_eqb (number_of r.why) m (λ q. omega arith)) (below (number_of r.why) rows (both_right (leb n (number_of r.why)) _ up) m (omega arith));
    })
    (λ f.
    let g = given (number_of r.why) rows (both_right (leb n (number_of r.why)) _ up) k (sym (ap (λ b. pick b (number_of r.why) (lowest rows)) f) ∙ e) in
    record {
      holds = simp (f, and-false) g.holds;
      lower = λ m h. simp (f, and-false) (g.lower m h);
    })

pub gives : (rows : List Row) → rising_from 0 rows ≡ true → (n : ℕ) → Given rows n → lowest rows ≡ n
gives rows up n g = by_number (lowest rows) refl
  where
    by_number : (k : ℕ) → lowest rows ≡ k → lowest rows ≡ n
    by_number zero e = not_both g.holds (none_holds rows e n)
    by_number (suc k) e =
        let h = given 0 rows up k e in
        split n (suc k)
        (λ l. not_both g.holds (h.lower n l))
        (λ l. split (suc k) n (λ m. not_both h.holds (g.lower (suc k) m)) (λ m. e ∙ omega arith))

-- what a call comes to: its lowest number where one is given, with everything else as it was; else what it does
pub record Refuses {O : Type 0} (rows : List Row) (number : O → ℕ) (refused : ℕ → O) (o done : O) : Type 0 where
  pub numbered : number o ≡ lowest rows
  pub kept : (k : ℕ) → lowest rows ≡ suc k → o ≡ refused (suc k)
  pub does : lowest rows ≡ 0 → o ≡ done
  pub exact : (k : ℕ) → (number o ≡ suc k) ↔ Given rows (suc k)

pub refuses : {O : Type 0} (rows : List Row) (number : O → ℕ) (refused : ℕ → O) (done : O) → ((n : ℕ) → number (refused n) ≡ n) → number done ≡ 0 → rising_from 0 rows ≡ true → Refuses rows number refused (judged (lowest rows) refused done) done
refuses rows number refused done r z up =
    let numbered = by_number (lowest rows) in
    record {
      numbered = numbered;
      kept = λ k h. ap (λ n. judged n refused done) h;
      does = λ h. ap (λ n. judged n refused done) h;
      exact = λ k. (λ e. given 0 rows up k (sym numbered ∙ e), λ g. numbered ∙ gives rows up (suc k) g);
    }
  where
    by_number : (n : ℕ) → number (judged n refused done) ≡ n
    by_number zero = z
    by_number (suc n) = r (suc n)

-- what a refusal and the doing both have, the call has
pub judged_ind : {O : Type 0} (P : O → Type 0) (n : ℕ) {refused : ℕ → O} {done : O} → ((k : ℕ) → P (refused k)) → P done → P (judged n refused done)
judged_ind P zero r d = d
judged_ind P (suc n) r d = r (suc n)

-- and where a refusal has but one value, the call's is picked
pub judged_pick : {O X : Type 0} (f : O → X) (n : ℕ) {refused : ℕ → O} (done : O) (x : X) → ((k : ℕ) → f (refused k) ≡ x) → f (judged n refused done) ≡ pick (eqb n 0) (f done) x
judged_pick f zero done x e = refl
judged_pick f (suc n) done x e = rw (ne_eqb (suc n) 0 (λ q. omega arith)) (e (suc n))

-- ---- what a verdict tells

pub fits_none : (rows : List Row) (v : Result ⊤ Refusal) → verdict_number v ≡ lowest rows → {x : ⊤} → v ≡ Ok x → lowest rows ≡ 0
fits_none rows v e {x} f = sym e ∙ ap verdict_number f

module _ {O : Type 0} {rows : List Row} {number : O → ℕ} {refused : ℕ → O} {o done : O} (r : Refuses rows number refused o done) (v : Result ⊤ Refusal) (e : verdict_number v ≡ lowest rows) where
  -- a refused call
  pub by_why : (why : Refusal) → v ≡ Err why → refused (number_of why) ≡ o
  by_why why f = at_number (number_of why) (some_number why) (sym e ∙ ap verdict_number f)
    where
      at_number : (n : ℕ) → (0 ≡ n → ⊥) → lowest rows ≡ n → refused n ≡ o
      at_number zero z h = absurd (z refl)
      at_number (suc n) z h = sym (r.kept n h)

  -- one that fits
  pub by_fits : {x : ⊤} → v ≡ Ok x → done ≡ o
  by_fits {x} f = sym (r.does (fits_none rows v e f))

-- ---- each call

-- the number in an outcome
abbrev pub in_outcome : Outcome → ℕ
in_outcome o = o.number

abbrev pub in_afresh : Afresh → ℕ
in_afresh a = a.number

abbrev pub in_inspection : Inspection → ℕ
in_inspection i = i.number

module _ (c : Controller) where
  -- an inspection
  pub inspect_refuses : Refuses (inspect_rows c) in_inspection no_element (inspect_means c) (named (first_in c.registers 0 16))
  unfolding inspect_rows inspect_means rising_from
  inspect_refuses = refuses (inspect_rows c) in_inspection no_element (named (first_in c.registers 0 16)) (λ n. refl) (name_zero (first_in c.registers 0 16)) refl
    where
      name_zero : (k : ℕ) → (named k).number ≡ 0
      name_zero k = pick_ind (λ (i : Inspection). i.number ≡ 0) (ltb k 16) (λ t. refl) (λ f. refl)

-- the picture afresh
pub picture_refuses : (image regs out : List ℕ) → Refuses (picture_rows image) in_afresh (λ n. afresh n out) (picture_means image regs out) (afresh 0 (picture_of (lit_of image (setting_of regs)) regs))
unfolding picture_rows picture_means rising_from
picture_refuses image regs out =
    refuses (picture_rows image) in_afresh (λ n. afresh n out) (afresh 0 (picture_of (lit_of image (setting_of regs)) regs)) (λ n. refl) refl refl

-- ---- what is so where a call is not refused

-- a state that can exist is not refused by 1
module _ {O : Type 0} {rows : List Row} {number : O → ℕ} {refused : ℕ → O} {o done : O} (r : Refuses rows number refused o done) where
  pub not_one : row_holds 1 rows ≡ false → number o ≡ 1 → ⊥
  not_one f e = not_both ((r.exact 0).0 e).holds f

pub picture_fits : (image : List ℕ) → lowest (picture_rows image) ≡ 0 → frame_allowed (length image) ≡ true
unfolding picture_rows
picture_fits image e = not_fails _ (first_fails _ _ e).0
