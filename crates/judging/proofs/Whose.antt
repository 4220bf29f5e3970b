-- Which rows are whose: what a judging tells of a plate. Assumes nothing.
use mathlib.Core.Path.{◌≡◌, refl, sym, ap, ◌∙◌}
use mathlib.Core.Logic.{◌↔◌}
use mathlib.Core.Bool.{true}
use mathlib.Core.List.{List}
use Prim.Native.Nat.{ℕ, zero, suc, ◌+◌, ◌*◌, ◌/◌, ◌%◌, ◌<◌, ◌≤◌}
use native.Mathlib.Omega.{arith}
use lib.Dec.{ltb}
use lib.ListN.{length, get_or, drop, set, get_or-append}
use lib.Seq.{ext_get_or, get_or-set_same, get_or-set_other}
use borrow.Author.Tests.{eqb-true, eq-eqb, lt-ltb, le-ltb}
use Rattle.laws.specs.Lists.{listed}
use Rattle.laws.specs.Pick.{pick}
use Rattle.laws.proofs.Bools.{either}
use Rattle.laws.proofs.Order.{split}
use Rattle.laws.proofs.Packed.{listed_length, listed_at, listed_ext}
use Rattle.timing.specs.Lent.{frame_allowed}
use Rattle.tiles.specs.Picture.{picture_of}
use Rattle.tiles.proofs.Area as area
use Rattle.controller.specs.Table.{lowest, judged}
use Rattle.placing.proofs.Each.{each_at, each_all}
use Rattle.judging.specs.Judging.{row_place, row_byte, row_of, row_same, row_judged, rows_equal, afresh_of, Judging, judging, judged_by, judge_rows, judge_means}
use Rattle.judging.proofs.Same.{same_byte}
use Rattle.judging.proofs.Outcomes.{judge_refuses}

-- ---- a row

-- byte i of a picture is of row `area.row_of i`, and this one of its bytes
abbrev nth_of : ℕ → ℕ
nth_of i = 2 * area.column_of i + i % 2

stands : (i : ℕ) → row_place (area.row_of i) (nth_of i) ≡ i
stands i =
    let a : area.row_of i / 8 ≡ i / 256 = omega arith in
    let b : area.row_of i % 8 ≡ i / 2 % 8 = omega arith in
    let c : nth_of i / 2 ≡ area.column_of i = omega arith in
    let d : nth_of i % 2 ≡ i % 2 = omega arith in
    rw (a, b, c, d) (omega (arith, area.whole i))

-- and of no other
row_only : (y k : ℕ) → k < 32 → area.row_of (row_place y k) ≡ y
row_only y k h = (area.stands (row_place y k) (k / 2) y (k % 2) (omega arith) (omega arith) (omega arith)).line

module _ (plate picture : List ℕ) where
  -- a row is the same exactly when its 32 bytes are
  pub same_bytes : (y : ℕ) → row_same plate picture y ≡ true → (k : ℕ) → k < 32 → row_byte plate y k ≡ row_byte picture y k
  unfolding row_same
  same_bytes y e k h = eqb-true _ _ (each_at (same_byte plate picture y) 32 e k h)

  bytes_same : (y : ℕ) → ((k : ℕ) → k < 32 → row_byte plate y k ≡ row_byte picture y k) → row_same plate picture y ≡ true
  unfolding row_same
  bytes_same y f = each_all (same_byte plate picture y) 32 (λ k h. eq-eqb _ _ (f k h))

  pub same_row : (y : ℕ) → (row_same plate picture y ≡ true) ↔ (row_of plate y ≡ row_of picture y)
  unfolding row_of
  same_row y = (
    λ e. listed_ext _ _ 32 (same_bytes y e),
    λ e. bytes_same y (λ k h. sym (listed_at (row_byte plate y) 32 k h) ∙ ap (λ (l : List ℕ). get_or l k 0) e ∙ listed_at (row_byte picture y) 32 k h),
  )

  -- it is judged 1 exactly then, and else 0
  judged_one : (y : ℕ) → (row_judged plate picture y ≡ 1) ↔ (row_same plate picture y ≡ true)
  unfolding row_judged
  judged_one y = (
    λ e. either (row_same plate picture y) (λ t. t) (λ f. absurd (zero_one (sym (ap (λ b. pick b 1 0) f) ∙ e))),
    λ e. ap (λ b. pick b 1 0) e,
  )
    where
      zero_one : ◌≡◌ {A = ℕ} 0 1 → ⊥
      zero_one e = omega arith

  judged_zero : (y : ℕ) → (row_of plate y ≡ row_of picture y → ⊥) → row_judged plate picture y ≡ 0
  unfolding row_judged
  judged_zero y n = either (row_same plate picture y) (λ t. absurd (n ((same_row y).0 t))) (λ f. ap (λ b. pick b 1 0) f)

  judged_most : (y : ℕ) → row_judged plate picture y ≤ 1
  unfolding row_judged
  judged_most y = either (row_same plate picture y) (λ t. rw t (omega arith)) (λ f. rw f (omega arith))

  -- ---- all rows

  pub equal_most : (n : ℕ) → rows_equal plate picture n ≤ n
  unfolding rows_equal
  equal_most zero = omega arith
  equal_most (suc n) = omega (arith, equal_most n, judged_most n)

  -- where all of n are equal, each is
  each_equal : (n : ℕ) → rows_equal plate picture n ≡ n → (y : ℕ) → y < n → row_judged plate picture y ≡ 1
  unfolding rows_equal
  each_equal zero e y h = absurd (omega arith)
  each_equal (suc n) e y h =
      let m = equal_most n in
      let o = judged_most n in
      split y n
      (λ before. each_equal n (omega arith) y before)
      (λ after. let here : y ≡ n = omega arith in rw here (omega arith))

  all_equal : (n : ℕ) → ((y : ℕ) → y < n → row_judged plate picture y ≡ 1) → rows_equal plate picture n ≡ n
  unfolding rows_equal
  all_equal zero f = refl
  all_equal (suc n) f = omega (arith, all_equal n (λ y h. f y (omega arith)), f n (omega arith))

  -- the rows make the picture
  rows_make : length plate ≡ 3584 → length picture ≡ 3584 → ((y : ℕ) → y < 112 → row_of plate y ≡ row_of picture y) → plate ≡ picture
  rows_make p q f =
      ext_get_or 0 plate picture (p ∙ sym q)
      (λ i h.
      let l : i < 3584 = omega arith in
      let s = same_bytes (area.row_of i) ((same_row (area.row_of i)).1 (f (area.row_of i) (omega arith))) (nth_of i) (omega arith) in
      rw (stands i) at s)

  pub all_rows : length plate ≡ 3584 → length picture ≡ 3584 → (rows_equal plate picture 112 ≡ 112) ↔ (plate ≡ picture)
  all_rows p q = (
    λ e. rows_make p q (λ y h. (same_row y).0 ((judged_one y).0 (each_equal 112 e y h))),
    λ e. all_equal 112 (λ y h. (judged_one y).1 ((same_row y).1 (ap (λ (l : List ℕ). row_of l y) e))),
  )

-- the picture afresh has 3,584 bytes
pub afresh_length : (frame regs : List ℕ) → length (afresh_of frame regs) ≡ 3584
unfolding picture_of
afresh_length frame regs = listed_length _ 3584

-- ---- a judging

module _ (plate frame regs rows : List ℕ) where
  -- one that is not refused
  judge_done : frame_allowed (length frame) ≡ true → 112 ≤ length rows → judge_means plate frame regs rows ≡ judged_by plate (afresh_of frame regs) rows
  unfolding judge_rows lowest
  judge_done f r = (judge_refuses plate frame regs rows).does (rw (f, le-ltb (length rows) 112 r))

  row_answered : frame_allowed (length frame) ≡ true → 112 ≤ length rows → (y : ℕ) → y < 112 → get_or (judge_means plate frame regs rows).rows y 0 ≡ row_judged plate (afresh_of frame regs) y
  unfolding judged_by
  row_answered f r y h =
      ap (λ (j : Judging). get_or j.rows y 0) (judge_done f r)
      ∙ get_or-append (listed (row_judged plate (afresh_of frame regs)) 112) (drop 112 rows) 0 y (rw (listed_length (row_judged plate (afresh_of frame regs)) 112) h)
      ∙ listed_at (row_judged plate (afresh_of frame regs)) 112 y h

  -- a judging that answers 112 was of the picture afresh
  pub whole_told : length plate ≡ 3584 → (judge_means plate frame regs rows).equal ≡ 112 → plate ≡ afresh_of frame regs
  unfolding judged_by judge_means
  whole_told p = by_number (lowest (judge_rows frame rows))
    where
      by_number : (n : ℕ) → (judged n (λ n. judging n 0 rows) (judged_by plate (afresh_of frame regs) rows)).equal ≡ 112 → plate ≡ afresh_of frame regs
      by_number zero e = (all_rows plate (afresh_of frame regs) p (afresh_length frame regs)).0 e
      by_number (suc n) e = absurd (omega arith)

  -- all 112 rows are equal exactly when the plate is the picture afresh
  pub whole : length plate ≡ 3584 → frame_allowed (length frame) ≡ true → 112 ≤ length rows → ((judge_means plate frame regs rows).equal ≡ 112) ↔ (plate ≡ afresh_of frame regs)
  unfolding judged_by
  whole p f r = (whole_told p, λ e. ap (λ (j : Judging). j.equal) (judge_done f r) ∙ (all_rows plate (afresh_of frame regs) p (afresh_length frame regs)).1 e)

  -- a row is answered 1 exactly when it is that of the picture afresh, and else 0
  pub row_told : frame_allowed (length frame) ≡ true → 112 ≤ length rows → (y : ℕ) → y < 112 → (get_or (judge_means plate frame regs rows).rows y 0 ≡ 1) ↔ (row_of plate y ≡ row_of (afresh_of frame regs) y)
  row_told f r y h =
      let a = row_answered f r y h in
      let o = judged_one plate (afresh_of frame regs) y in
      let s = same_row plate (afresh_of frame regs) y in
      (λ e. s.0 (o.0 (sym a ∙ e)), λ e. a ∙ o.1 (s.1 e))

  pub row_other : frame_allowed (length frame) ≡ true → 112 ≤ length rows → (y : ℕ) → y < 112 → (row_of plate y ≡ row_of (afresh_of frame regs) y → ⊥) → get_or (judge_means plate frame regs rows).rows y 0 ≡ 0
  row_other f r y h n = row_answered f r y h ∙ judged_zero plate (afresh_of frame regs) y n

  -- and then each of its 32 bytes is as the picture afresh has it
  pub row_bytes : frame_allowed (length frame) ≡ true → 112 ≤ length rows → (y : ℕ) → y < 112 → get_or (judge_means plate frame regs rows).rows y 0 ≡ 1
      → (k : ℕ) → k < 32 → get_or plate (row_place y k) 0 ≡ get_or (afresh_of frame regs) (row_place y k) 0
  row_bytes f r y h e = same_bytes plate (afresh_of frame regs) y ((judged_one plate (afresh_of frame regs) y).0 (sym (row_answered f r y h) ∙ e))

-- ---- a plate of two frames

-- the rows before k are those of one picture, and the others those of another
pub record Parted (plate a b : List ℕ) (k : ℕ) : Type 0 where
  pub first : (y : ℕ) → y < k → row_of plate y ≡ row_of a y
  pub later : (y : ℕ) → k ≤ y → y < 112 → row_of plate y ≡ row_of b y

module _ (plate frame regs frame' regs' rows : List ℕ) (f : frame_allowed (length frame) ≡ true) (f' : frame_allowed (length frame') ≡ true) (r : 112 ≤ length rows) where
  -- it is judged so by either frame
  pub two_frames : (k : ℕ) → Parted plate (afresh_of frame regs) (afresh_of frame' regs') k → (y : ℕ) → y < 112
      → (y < k → get_or (judge_means plate frame regs rows).rows y 0 ≡ 1) × (k ≤ y → get_or (judge_means plate frame' regs' rows).rows y 0 ≡ 1)
  two_frames k p y h = (λ l. (row_told plate frame regs rows f r y h).1 (p.first y l), λ l. (row_told plate frame' regs' rows f' r y h).1 (p.later y l h))

-- such a plate there is, of any two pictures and for any k
abbrev pub parted_of : List ℕ → List ℕ → ℕ → List ℕ
parted_of a b k = listed (λ i. pick (ltb (area.row_of i) k) (get_or a i 0) (get_or b i 0)) 3584

pub parted_is : (a b : List ℕ) (k : ℕ) → k ≤ 112 → Parted (parted_of a b k) a b k
unfolding row_of
parted_is a b k l = record {
  first = λ y h. listed_ext _ _ 32 (λ n m. at y n (omega arith) m ∙ rw (lt-ltb (area.row_of (row_place y n)) k (omega (arith, row_only y n m))));
  later = λ y h g. listed_ext _ _ 32 (λ n m. at y n g m ∙ rw (le-ltb (area.row_of (row_place y n)) k (omega (arith, row_only y n m))));
}
  where
    at : (y n : ℕ) → y < 112 → n < 32 → row_byte (parted_of a b k) y n ≡ pick (ltb (area.row_of (row_place y n)) k) (row_byte a y n) (row_byte b y n)
    at y n h m = listed_at (λ i. pick (ltb (area.row_of i) k) (get_or a i 0) (get_or b i 0)) 3584 (row_place y n) (omega arith)

-- ---- a plate with a byte changed

module _ (frame regs rows : List ℕ) (f : frame_allowed (length frame) ≡ true) (r : 112 ≤ length rows) (i v : ℕ) (h : i < 3584) (n : v ≡ get_or (afresh_of frame regs) i 0 → ⊥) where
  abbrev changed : List ℕ
  changed = set (afresh_of frame regs) i v

  -- its row is judged 0, and every other 1
  pub changed_row : get_or (judge_means changed frame regs rows).rows (area.row_of i) 0 ≡ 0
  changed_row =
      row_other changed frame regs rows f r (area.row_of i) (omega arith)
      (λ e.
      let s = same_bytes changed (afresh_of frame regs) (area.row_of i) ((same_row changed (afresh_of frame regs) (area.row_of i)).1 e) (nth_of i) (omega arith) in
      n (sym (get_or-set_same (afresh_of frame regs) i v 0 (rw (afresh_length frame regs) h)) ∙ rw (stands i) at s))

  pub other_rows : (y : ℕ) → y < 112 → (y ≡ area.row_of i → ⊥) → get_or (judge_means changed frame regs rows).rows y 0 ≡ 1
  unfolding row_of
  other_rows y l o =
      (row_told changed frame regs rows f r y l).1
      (listed_ext _ _ 32 (λ k m. get_or-set_other (afresh_of frame regs) i (row_place y k) v 0 (λ e. o (sym (row_only y k m) ∙ ap area.row_of e))))
