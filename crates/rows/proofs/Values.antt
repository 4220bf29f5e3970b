-- Rows of values from rows of step 4 values, 128 added to each. Assumes nothing.
use mathlib.Core.Bool.{true, false}
use mathlib.Core.List.{List}
use mathlib.Core.Path.{◌≡◌, refl, sym, ap, ap₂, ◌∙◌}
use Prim.Native.Nat.{ℕ, zero, suc, ◌+◌, ◌-◌, ◌<◌, min}
use native.Mathlib.Omega.{arith}
use borrow.Author.Tests.{le-ltb, ltb-false, ltb-true, ne_eqb, eqb-true, eqb-false}
use lib.Dec.{ltb, eqb, lit<}
use lib.IntN.{ℤ, pos, negsuc, nat_abs, sub_ℕ, ◌+ℤ◌, ◌-ℤ◌}
use lib.ListN.{length, get_or}
use lib.Signed.{mag}
use Rattle.laws.proofs.Packed.{listed_length, listed_at, listed_ext, listed_of}
use Rattle.laws.proofs.Bools.{either, not_both, both_left, both_right}
use Rattle.laws.proofs.Pick.{pick_ind}
use Rattle.laws.proofs.Signed.{sub_ind}
use Rattle.lighting.specs.declared.Setting.{Setting}
use Rattle.filters.specs.Edge.{held, nine, edge_of}
use Rattle.sensor.specs.Nine.{signed_at, three_of, nine_of, step4}
use Rattle.sensor.specs.Row.{passes, row_filter, step5}
use Rattle.sensor.specs.Shade.{value_at}
use Rattle.sensor.proofs.Facts.{step4_small}
use Rattle.rows.specs.Aside.{value_row, asks_below, negates, raised_of, pixel_by, row_by, step_row, less_of, less_row, negative_row, Carried}

-- ---- a lit value less 128, raised again
raised_byte : (b : ℕ) → raised_of (pos b -ℤ pos 128) ≡ b
unfolding raised_of
raised_byte b =
    sub_ind b 128 (λ z. nat_abs (z +ℤ pos 128) ≡ b)
    (λ h. sub_ind 128 (suc (128 - suc b)) (λ z. nat_abs z ≡ b) (λ k. absurd (omega arith)) (λ k. omega arith))
    (λ h. omega arith)

-- ---- step 4, by its columns: of a mode that is P, and of mode 1
module _ (q : ℕ) (lit : ℕ → ℕ → ℕ) (row : ℕ) {p : List ℕ} (e : length p ≡ 128) where
  pub plain_row : (mode : ℕ) → ((n : List (List ℤ)) → edge_of mode q n ≡ nine n 1 1) → ((x : ℕ) → x < 128 → get_or p x 0 ≡ lit x row) → p ≡ row_by mode q lit row
  unfolding pixel_by nine_of three_of signed_at
  plain_row mode m h =
      listed_of p 128 e ∙ listed_ext _ _ 128 (λ x l. h x l ∙ sym (raised_byte (lit x row)) ∙ ap raised_of (sym (m (nine_of lit x row))))

  pub zero_row : ((x : ℕ) → x < 128 → get_or p x 0 ≡ 128) → p ≡ row_by 0x1 q lit row
  unfolding pixel_by edge_of raised_of
  zero_row h = listed_of p 128 e ∙ listed_ext _ _ 128 h

-- ---- step 5, in bytes

held_same : (z : ℤ) → mag z < 128 → held z ≡ z
unfolding held
held_same (pos n) h = simp (le-ltb 127 n (omega arith))
held_same (negsuc n) h = simp (le-ltb 127 n (omega arith))

-- what is held, raised
held_pos : (n : ℕ) → raised_of (held (pos n)) ≡ min (n + 128) 255
unfolding raised_of held
held_pos n = pick_ind (λ z. nat_abs (z +ℤ pos 128) ≡ min (n + 128) 255) (ltb 127 n) (λ t. omega (arith, ltb-true 127 n t)) (λ t. omega (arith, ltb-false 127 n t))

held_neg : (n : ℕ) → raised_of (held (negsuc n)) ≡ 127 - n
unfolding raised_of held
held_neg n =
    pick_ind (λ z. nat_abs (z +ℤ pos 128) ≡ 127 - n) (ltb 127 n)
    (λ t. omega (arith, ltb-true 127 n t))
    (λ t. let h = ltb-false 127 n t in sub_ind 128 (suc n) (λ z. nat_abs z ≡ 127 - n) (λ k. absurd (omega arith)) (λ k. omega arith))

held_sub : (a b : ℕ) → raised_of (held (sub_ℕ a b)) ≡ min (a + 128 - b) 255
held_sub a b =
    sub_ind a b (λ z. raised_of (held z) ≡ min (a + 128 - b) 255)
    (λ h. omega (arith, held_neg (b - suc a)))
    (λ h. omega (arith, held_pos (a - b)))

raised_neg : (n : ℕ) → n < 128 → raised_of (negsuc n) ≡ 127 - n
unfolding raised_of
raised_neg n h = sub_ind 128 (suc n) (λ z. nat_abs z ≡ 127 - n) (λ k. absurd (omega arith)) (λ k. omega arith)

raised_pos : (n : ℕ) → raised_of (pos n) ≡ n + 128
unfolding raised_of
raised_pos n = refl

-- P − s held, of two small values, in bytes
less_same : (z y : ℤ) → mag z < 128 → mag y < 128 → less_of (raised_of z) (raised_of y) ≡ raised_of (held (z -ℤ y))
less_same (pos a) (pos zero) h k = omega (arith, raised_pos a, raised_pos 0, held_pos (a + 0))
less_same (pos a) (pos (suc b)) h k = omega (arith, raised_pos a, raised_pos (suc b), held_sub a (suc b))
less_same (pos a) (negsuc b) h k = omega (arith, raised_pos a, raised_neg b k, held_pos (a + suc b))
less_same (negsuc a) (pos zero) h k = omega (arith, raised_neg a h, raised_pos 0, held_sub 0 (suc a))
less_same (negsuc a) (pos (suc b)) h k = omega (arith, raised_neg a h, raised_pos (suc b), held_neg (suc (a + b)))
less_same (negsuc a) (negsuc b) h k = omega (arith, raised_neg a h, raised_neg b k, held_sub (suc b) (suc a))

-- ---- the values of a row of lit values that are bytes
module _ (lit : ℕ → ℕ → ℕ) (bytes : (x row : ℕ) → lit x row < 256) (set : Setting) (row : ℕ) where
  abbrev four : ℕ → ℕ → ℤ
  four r x = step4 lit set x r

  small : (r x : ℕ) → mag (four r x) < 128
  small r x = step4_small lit bytes set x r

  -- column x of a row of step 4 values
  at_row : (r : ℕ) {p : List ℕ} → p ≡ step_row lit set r → (x : ℕ) → x < 128 → get_or p x 0 ≡ raised_of (four r x)
  unfolding step4 pixel_by
  at_row r e x h = rw e (listed_at (pixel_by set.mode set.quarters lit r) 128 x h)

  -- where the mode does not pass the 1-D filter
  row_unpassed : passes set.mode ≡ false → step_row lit set row ≡ value_row lit set row
  unfolding value_at step5 step4 pixel_by raised_of
  row_unpassed off = listed_ext _ _ 128 (λ x h. rw off)

  -- where it does
  passed : passes set.mode ≡ true → (x : ℕ) → value_at lit set x row ≡ raised_of (row_filter set.kind (four row x) (four (row + 1) x))
  unfolding value_at step5 raised_of
  passed on x = rw on

  module _ {p : List ℕ} (e : p ≡ step_row lit set row) where
    -- P − s of the row and the row below, where that is asked for
    pub row_lessened : asks_below set ≡ true → {s : List ℕ} → s ≡ step_row lit set (row + 1) → less_row p s ≡ value_row lit set row
    unfolding asks_below row_filter
    row_lessened a f =
        let on = both_left (passes set.mode) (ltb 1 set.kind) a in
        let more = ltb-true 1 set.kind (both_right (passes set.mode) (ltb 1 set.kind) a) in
        listed_ext _ _ 128 (λ x h.
        ap₂ less_of (at_row row e x h) (at_row (row + 1) f x h)
        ∙ less_same (four row x) (four (row + 1) x) (small row x) (small (row + 1) x)
        ∙ sym (passed on x ∙ simp (ne_eqb set.kind 0 (λ z. omega arith), ne_eqb set.kind 1 (λ z. omega arith))))

    -- the negative, where that is
    pub row_negated : negates set ≡ true → negative_row p ≡ value_row lit set row
    unfolding negates row_filter raised_of
    row_negated a =
        let on = both_left (passes set.mode) (eqb set.kind 0) a in
        let none = eqb-true set.kind 0 (both_right (passes set.mode) (eqb set.kind 0) a) in
        listed_ext _ _ 128 (λ x h.
        ap (less_of 128) (at_row row e x h)
        ∙ less_same (pos 0) (four row x) (lit< tt) (small row x)
        ∙ sym (passed on x ∙ rw none))

    -- P itself, where neither is
    pub row_kept : asks_below set ≡ false → negates set ≡ false → p ≡ value_row lit set row
    unfolding asks_below negates row_filter step4 pixel_by
    row_kept a b =
        either (passes set.mode)
        (λ on.
        let least = ltb-false 1 set.kind (rw on at a) in
        let one : set.kind ≡ 1 = omega (arith, eqb-false set.kind 0 (rw on at b)) in
        e ∙ listed_ext _ _ 128 (λ x h. sym (passed on x ∙ ap (λ (k : ℕ). raised_of (row_filter k (four row x) (four (row + 1) x))) one ∙ ap raised_of (held_same (four row x) (small row x)))))
        (λ off. e ∙ row_unpassed off)

-- ---- what is carried
module _ (lit : ℕ → ℕ → ℕ) (set : Setting) (row : ℕ) {p : List ℕ} where
  -- the row's step 4 values
  pub carried_on : p ≡ step_row lit set row → Carried lit set row p
  carried_on e = record { whole = rw e (listed_length _ 128); below = λ a. e }

  -- nothing, where the row below is not asked for
  pub carried_none : length p ≡ 128 → asks_below set ≡ false → Carried lit set row p
  carried_none e off = record { whole = e; below = λ a. not_both a off }
