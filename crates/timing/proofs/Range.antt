-- How many of the picture's pixels are done after so many cycles, and what one cycle writes. Assumes nothing.
use mathlib.Core.Path.{◌≡◌, refl, sym, ap, ◌∙◌}
use mathlib.Core.Bool.{Bool, true, false, not, and-false, and-not_self}
use mathlib.Core.List.{List}
use Prim.Native.Nat.{ℕ, suc, ◌+◌, ◌-◌, ◌*◌, ◌/◌, ◌%◌, ◌<◌, ◌≤◌}
use native.Mathlib.Omega.{arith}
use lib.Dec.{eqb}
use borrow.Author.Tests.{eqb-true, lt-ltb, le-ltb, le-leb, lt-leb, eq-eqb, ne_eqb}
use Rattle.laws.specs.Pick.{pick}
use Rattle.laws.proofs.Order.{split}
use Rattle.timing.specs.Timing.{n_set, total_of, reading_from, rows_read, first_row, due, candidate, row_of, put_pixel, written_at}
use Rattle.tiles.specs.Aside.{put_nth, pixels}
use Rattle.tiles.proofs.Run.{pixels_suc}
use Rattle.timing.specs.Aside.{picture_from, done_by}
use Rattle.laws.proofs.Bools.{both_left}

-- ---- how many are done

-- the numbers that hang on N, by the first row that is read
picked_from : (n : Bool) → pick n 896 1024 + 128 * pick n 1 0 ≡ 1024
picked_from true = refl
picked_from false = refl

picked_rows : (n : Bool) → pick n 126 128 + 2 * pick n 1 0 ≡ 128
picked_rows true = refl
picked_rows false = refl

picked_total : (n : Bool) → pick n 0 512 + 512 * pick n 1 0 ≡ 512
picked_total true = refl
picked_total false = refl

picked_first : (n : Bool) → pick n 1 0 ≤ 1
picked_first true = omega arith
picked_first false = omega arith

pub record Timed (regs : List ℕ) : Type 0 where
  pub first : first_row regs ≤ 1
  pub rows : rows_read regs + 2 * first_row regs ≡ 128
  pub from : picture_from regs + 128 * first_row regs ≡ reading_from regs + 1024
  pub total : total_of regs + 512 * first_row regs ≡ 32774 + 2 * reading_from regs

pub timed : (regs : List ℕ) → Timed regs
unfolding first_row rows_read picture_from reading_from total_of
timed regs = record {
  first = picked_first (n_set regs);
  rows = picked_rows (n_set regs);
  from = omega (arith, picked_from (n_set regs));
  total = omega (arith, picked_total (n_set regs));
}

module _ (regs : List ℕ) where
  pub done_low : (e : ℕ) → e / 2 ≤ picture_from regs → done_by regs e ≡ 0
  unfolding done_by
  done_low e h = omega arith

  pub done_mid : (e j : ℕ) → j ≤ 14336 → e / 2 ≡ picture_from regs + j → done_by regs e ≡ j
  unfolding done_by
  done_mid e j most h = omega arith

  pub done_high : (e : ℕ) → picture_from regs + 14336 ≤ e / 2 → done_by regs e ≡ 14336
  unfolding done_by
  done_high e h = omega arith

  pub done_half : (a b : ℕ) → a / 2 ≡ b / 2 → done_by regs a ≡ done_by regs b
  unfolding done_by
  done_half a b h = rw h

  pub done_mono : (a b : ℕ) → a ≤ b → done_by regs a ≤ done_by regs b
  unfolding done_by
  done_mono a b h = omega arith

  pub done_most : (e : ℕ) → done_by regs e ≤ 14336
  unfolding done_by
  done_most e = omega arith

  -- as a capture ends, all are done
  pub done_all : done_by regs (total_of regs) ≡ 14336
  done_all = let t = timed regs in done_high (total_of regs) (omega arith)

-- ---- which pixel is due

-- no pixel but the candidate is due at a cycle
pub due_only : (regs : List ℕ) (k e : ℕ) → due regs k e ≡ true → candidate regs e ≡ k
unfolding due
due_only regs k e h =
    let now : e / 2 ≡ reading_from regs + k + 1 = eqb-true (e / 2) (reading_from regs + k + 1) (both_left _ (not (eqb ((e - 1) / 2) (reading_from regs + k + 1))) h) in
    omega arith

-- ---- pixel k of the sensor, and pixel j of the picture

module _ (lit : ℕ → ℕ → ℕ) (regs : List ℕ) where
  -- rows 8 to 119 of the sensor are the picture's
  pub put_inside : (k j : ℕ) (ram : List ℕ) → k + 128 * first_row regs ≡ j + 1024 → j < 14336 → put_pixel lit regs k ram ≡ put_nth lit regs j ram
  unfolding put_pixel put_nth
  put_inside k j ram same most =
      let t = timed regs in
      let column : k % 128 ≡ j % 128 = omega arith in
      let row : first_row regs + k / 128 ≡ j / 128 + 8 = omega arith in
      let up : j / 128 + 8 - 8 ≡ j / 128 = omega arith in
      rw (column, row, le-leb 8 (j / 128 + 8) (omega arith), lt-ltb (j / 128 + 8) 120 (omega arith), up)

  -- other rows write nothing
  pub put_above : (k : ℕ) (ram : List ℕ) → row_of regs k < 8 → put_pixel lit regs k ram ≡ ram
  unfolding put_pixel
  put_above k ram h = simp (lt-leb 8 (row_of regs k) h)

  pub put_below : (k : ℕ) (ram : List ℕ) → 120 ≤ row_of regs k → put_pixel lit regs k ram ≡ ram
  unfolding put_pixel
  put_below k ram h = simp (le-ltb (row_of regs k) 120 h, and-false)

  -- ---- what one cycle writes

  -- nothing where no clock begins
  pub written_still : (e : ℕ) (ram : List ℕ) → suc e / 2 ≡ e / 2 → written_at lit regs (suc e) ram ≡ ram
  unfolding written_at due
  written_still e ram h =
      let p : suc e - 1 ≡ e = omega arith in
      simp (p, h, and-not_self)

  -- nothing before reading begins
  pub written_early : (e : ℕ) (ram : List ℕ) → suc e / 2 ≤ reading_from regs → written_at lit regs (suc e) ram ≡ ram
  unfolding written_at due
  written_early e ram h = simp (ne_eqb (suc e / 2) (reading_from regs + candidate regs (suc e) + 1) (λ q. omega arith))

  module _ (e k : ℕ) (ram : List ℕ) (now : suc e / 2 ≡ reading_from regs + k + 1) (last : e / 2 ≡ reading_from regs + k) where
    -- pixel k at the one cycle that begins its clock
    pub written_due : k < 128 * rows_read regs → written_at lit regs (suc e) ram ≡ put_pixel lit regs k ram
    unfolding written_at due
    written_due h =
        let p : suc e - 1 ≡ e = omega arith in
        let c : candidate regs (suc e) ≡ k = omega arith in
        rw (c, p, eq-eqb (suc e / 2) (reading_from regs + k + 1) now, ne_eqb (e / 2) (reading_from regs + k + 1) (λ q. omega arith), lt-ltb k (128 * rows_read regs) h)

    -- nothing past the last row that is read
    pub written_past : 128 * rows_read regs ≤ k → written_at lit regs (suc e) ram ≡ ram
    unfolding written_at
    written_past h =
        let c : candidate regs (suc e) ≡ k = omega arith in
        rw (c, le-ltb k (128 * rows_read regs) h, and-false)

  module _ (from e : ℕ) (ram : List ℕ) (begun : from ≤ done_by regs e) where
    -- the pixels done so far
    abbrev so_far : ℕ → List ℕ
    so_far n = pixels lit regs from (done_by regs n) ram

    -- a cycle that writes nothing, and one that writes the picture's next pixel
    same : {r : List ℕ} → done_by regs e ≡ done_by regs (suc e) → r ≡ so_far e → r ≡ so_far (suc e)
    same q p = p ∙ ap (λ (n : ℕ). pixels lit regs from n ram) q

    moves : {r : List ℕ} → suc (done_by regs e) ≡ done_by regs (suc e) → r ≡ put_nth lit regs (done_by regs e) (so_far e) → r ≡ so_far (suc e)
    moves q p =
        p
        ∙ sym (pixels_suc lit regs from (done_by regs e) ram begun)
        ∙ ap (λ (n : ℕ). pixels lit regs from n ram) q

    still_none : suc e / 2 ≤ picture_from regs → done_by regs e ≡ done_by regs (suc e)
    still_none h = done_low regs e (omega arith) ∙ sym (done_low regs (suc e) h)

    still_all : picture_from regs + 14336 ≤ e / 2 → done_by regs e ≡ done_by regs (suc e)
    still_all h = done_high regs e h ∙ sym (done_high regs (suc e) (omega arith))

    -- pixel k, where it is the sensor's
    row_step_lem : (k : ℕ) → suc e / 2 ≡ reading_from regs + k + 1 → e / 2 ≡ reading_from regs + k → put_pixel lit regs k (so_far e) ≡ so_far (suc e)
    row_step_lem k now last =
        let t = timed regs in
        split (row_of regs k) 8
        (λ above. same (still_none (omega arith)) (put_above k (so_far e) above))
        (λ low.
        split (row_of regs k) 120
        (λ high.
        let j : ℕ = k + 128 * first_row regs - 1024 in
        let here : done_by regs e ≡ j = done_mid regs e j (omega arith) (omega arith) in
        let next : done_by regs (suc e) ≡ suc j = done_mid regs (suc e) (suc j) (omega arith) (omega arith) in
        moves (omega arith) (put_inside k (done_by regs e) (so_far e) (omega arith) (omega arith)))
        (λ below. same (still_all (omega arith)) (put_below k (so_far e) below)))

    -- the pixels done so far, and cycle e + 1: the pixels done so far
    pub pixels_step : written_at lit regs (suc e) (so_far e) ≡ so_far (suc e)
    pixels_step =
        let t = timed regs in
        split (e / 2) (suc e / 2)
        (λ begins.
        split (reading_from regs) (suc e / 2)
        (λ reading.
        let k : ℕ = e / 2 - reading_from regs in
        let now : suc e / 2 ≡ reading_from regs + k + 1 = omega arith in
        let last : e / 2 ≡ reading_from regs + k = omega arith in
        split k (128 * rows_read regs)
        (λ read. written_due e k (so_far e) now last read ∙ row_step_lem k now last)
        (λ past. same (still_all (omega arith)) (written_past e k (so_far e) now last past)))
        (λ early. same (still_none (omega arith)) (written_early e (so_far e) early)))
        (λ still. same (done_half regs e (suc e) (omega arith)) (written_still e (so_far e) (omega arith)))
