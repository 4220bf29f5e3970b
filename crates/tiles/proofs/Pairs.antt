-- The picture's bytes put in pairs: in the RAM they are its pixels, and in a list of their own the picture. Assumes nothing.
use mathlib.Core.Path.{◌≡◌, refl, sym, ap, ◌∙◌}
use mathlib.Core.List.{List}
use Prim.Native.Nat.{ℕ, zero, suc, ◌+◌, ◌*◌, ◌/◌, ◌%◌, ◌<◌, ◌≤◌}
use native.Mathlib.Nat.{add-zero, add-suc, add_assoc}
use native.Mathlib.Numerals.{add-one}
use native.Mathlib.Omega.{arith}
use borrow.Author.Tests.{eq-eqb, ne_eqb}
use lib.ListN.{length, get_or, set, length-set}
use Rattle.laws.specs.Lists.{listed}
use Rattle.laws.proofs.Order.{split}
use Rattle.laws.proofs.Packed.{packed_ext, listed_at}
use Rattle.lighting.specs.declared.Setting.{Setting}
use Rattle.lighting.specs.Taken.{setting_of}
use Rattle.sensor.specs.Shade.{value_at, shade_of, shade_at}
use Rattle.rows.specs.Aside.{value_row}
use Rattle.strips.specs.Aside.{low_of, high_of}
use Rattle.tiles.specs.Tiles.{place, Bytes}
use Rattle.tiles.specs.Picture.{low_byte, high_byte, picture_byte, picture_of}
use Rattle.tiles.specs.Aside.{pixels}
use Rattle.tiles.specs.Aside.{pair_at, put_pair, put_pairs}
use Rattle.tiles.proofs.Run.{pixels_none, pixels_join}
use Rattle.tiles.proofs.Pixels.{by_place, stored_first, stored_second, stored_other, pixels_length, pixels_bytes}
use Rattle.tiles.proofs.Area.{column_of, row_of, stands, whole, picture_made}
use Rattle.tiles.proofs.Eight.{eight_by_lem}

-- ---- the bytes of a row of values

module _ (lit : ℕ → ℕ → ℕ) (regs : List ℕ) (set : Setting) (asked : set ≡ setting_of regs) (t y : ℕ) (ht : t < 16) where
  same : (b : ℕ) → b < 8 → shade_of regs (8 * t + b) (y + 8) (get_or (value_row lit set (y + 8)) (8 * t + b) 0) ≡ shade_at lit regs (8 * t + b) (y + 8)
  unfolding shade_at
  same b h =
      ap (shade_of regs (8 * t + b) (y + 8))
      (listed_at (λ x. value_at lit set x (y + 8)) 128 (8 * t + b) (omega arith) ∙ ap (λ (s : Setting). value_at lit s (8 * t + b) (y + 8)) asked)

  low_same : low_of (value_row lit set (y + 8)) regs (y + 8) t ≡ low_byte lit regs t y
  unfolding low_of low_byte
  low_same = packed_ext _ _ 8 (λ b h. ap (λ (n : ℕ). n % 2) (same b h))

  high_same : high_of (value_row lit set (y + 8)) regs (y + 8) t ≡ high_byte lit regs t y
  unfolding high_of high_byte
  high_same = packed_ext _ _ 8 (λ b h. ap (λ (n : ℕ). n / 2) (same b h))

  -- as they are made of a row of values
  module _ {values : List ℕ} (made : values ≡ value_row lit set (y + 8)) where
    pub low_made : {low : List ℕ} → low ≡ listed (low_of values regs (y + 8)) 16 → get_or low t 0 ≡ low_byte lit regs t y
    low_made put = rw (put, listed_at (low_of values regs (y + 8)) 16 t ht, made) low_same

    pub high_made : {high : List ℕ} → high ≡ listed (high_of values regs (y + 8)) 16 → get_or high t 0 ≡ high_byte lit regs t y
    high_made put = rw (put, listed_at (high_of values regs (y + 8)) 16 t ht, made) high_same

-- ---- pairs, one after another
module _ (lit : ℕ → ℕ → ℕ) (regs : List ℕ) (at : ℕ) where
  pub pairs_none : (from : ℕ) (out : List ℕ) → put_pairs lit regs at from 0 out ≡ out
  unfolding put_pairs
  pairs_none from out = refl

  pub pairs_more : (from n : ℕ) (out : List ℕ) → put_pairs lit regs at from (n + 1) out ≡ put_pair lit regs at (from + n) (put_pairs lit regs at from n out)
  unfolding put_pairs
  pairs_more from n out = simp add-one

  -- a pairs, and then b
  pub pairs_join : (from a b : ℕ) (out : List ℕ) → put_pairs lit regs at (from + a) b (put_pairs lit regs at from a out) ≡ put_pairs lit regs at from (a + b) out
  unfolding put_pairs
  pairs_join from a zero out = rw add-zero
  pairs_join from a (suc b) out =
      rw (add-suc, ← add_assoc) (ap (put_pair lit regs at (from + a + b)) (pairs_join from a b out))

  pub pairs_length : (from n : ℕ) (out : List ℕ) → length (put_pairs lit regs at from n out) ≡ length out
  unfolding put_pairs put_pair
  pairs_length from zero out = refl
  pairs_length from (suc n) out = simp length-set (pairs_length from n out)

  -- two bytes stored are the pair of their column and row
  pub pair_stored : (out : List ℕ) (t y o l h : ℕ) → t < 16 → o ≡ at + 16 * (16 * (y / 8) + t) + 2 * (y % 8) → l ≡ low_byte lit regs t y → h ≡ high_byte lit regs t y
      → set (set out o l) (o + 1) h ≡ put_pair lit regs at (16 * y + t) out
  unfolding put_pair
  pair_stored out t y o l h ht eo el eh =
      let a : (16 * y + t) % 16 ≡ t = omega arith in
      let b : (16 * y + t) / 16 ≡ y = omega arith in
      let c : at + (16 * (16 * (y / 8) + t) + 2 * (y % 8)) ≡ o = omega arith in
      rw (a, b, c, el, eh)

-- ---- in the RAM

-- where pixel 8 n is
aligned : (n : ℕ) → 8 * n % 8 ≡ 0
aligned n = omega arith

row_of_lem : (n : ℕ) → 8 * n / 128 ≡ n / 16
row_of_lem n = omega arith

column_of_lem : (n : ℕ) → 8 * n % 128 / 8 ≡ n % 16
column_of_lem n =
    let a : 8 * n % 128 ≡ 8 * (n % 16) = omega (arith, row_of_lem n) in
    rw a (omega arith)

module _ (lit : ℕ → ℕ → ℕ) (regs ram : List ℕ) (long : 8192 ≤ length ram) (bytes : Bytes ram) where
  pub pairs_pixels : (from n : ℕ) → 8 * (from + n) ≤ 14336 → put_pairs lit regs 0x100 from n ram ≡ pixels lit regs (8 * from) (8 * (from + n)) ram
  unfolding put_pairs put_pair
  pairs_pixels from zero most = rw add-zero (sym (pixels_none lit regs (8 * from) ram))
  pairs_pixels from (suc n) most =
      let m = from + n in
      let before = pixels lit regs (8 * from) (8 * m) ram in
      let a = column_of_lem m in
      let b = row_of_lem m in
      let c : 8 * (from + suc n) ≡ 8 * m + 8 = omega arith in
      let p : 0x100 + pair_at m ≡ place (8 * m % 128) (8 * m / 128) = rw (a, b) (omega arith) in
      rw (pairs_pixels from n (omega arith), p, c)
      (eight_by_lem lit regs (8 * m) before (aligned m) (omega arith) (rw (pixels_length lit regs (8 * from) (8 * m) ram) long)
      (pixels_bytes lit regs (8 * from) (8 * m) ram (omega arith) long bytes) _ _ (rw (a, b)) (rw (a, b))
      ∙ pixels_join lit regs (8 * from) (8 * m) (8 * m + 8) ram (omega arith) (omega arith))

-- ---- in a list of their own
module _ (lit : ℕ → ℕ → ℕ) (regs : List ℕ) where
  -- byte i of the picture is of a pair
  low_byte_lem : (i t y : ℕ) → column_of i ≡ t → row_of i ≡ y → i % 2 ≡ 0 → low_byte lit regs t y ≡ picture_byte lit regs i
  unfolding picture_byte
  low_byte_lem i t y c l h = simp (eq-eqb (i % 2) 0 h, c, l)

  high_byte_lem : (i t y : ℕ) → column_of i ≡ t → row_of i ≡ y → i % 2 ≡ 1 → high_byte lit regs t y ≡ picture_byte lit regs i
  unfolding picture_byte
  high_byte_lem i t y c l h = simp (ne_eqb (i % 2) 0 (λ z. omega arith), c, l)

  -- and of a pair that is put, it stands in one of two places
  module _ (out : List ℕ) (size : length out ≡ 3584) where
    shown : (n : ℕ) → n ≤ 1792 → (i : ℕ) → 16 * row_of i + column_of i < n → get_or (put_pairs lit regs 0 0 n out) i 0 ≡ picture_byte lit regs i
    unfolding put_pairs put_pair
    shown zero most i h = absurd (omega arith)
    shown (suc n) most i h =
        let m = 0 + n in
        let p = 0 + pair_at m in
        let old = put_pairs lit regs 0 0 n out in
        let low = low_byte lit regs (m % 16) (m / 16) in
        let high = high_byte lit regs (m % 16) (m / 16) in
        let l : length old ≡ 3584 = pairs_length lit regs 0 0 n out ∙ size in
        by_place i p
        (λ e.
        let s = stands i (m % 16) (m / 16) 0 (omega arith) (omega arith) (omega arith) in
        rw e (stored_first old p low high (omega arith)) ∙ low_byte_lem i (m % 16) (m / 16) s.column s.line s.half)
        (λ e.
        let s = stands i (m % 16) (m / 16) 1 (omega arith) (omega arith) (omega arith) in
        rw e (stored_second old p low high (omega arith)) ∙ high_byte_lem i (m % 16) (m / 16) s.column s.line s.half)
        (λ a b. stored_other old p low high i a b ∙ shown n (omega arith) i (split (16 * row_of i + column_of i) n (λ k. k) (λ k. absurd (no a b (omega arith)))))
      where
        no : (i ≡ 0 + pair_at (0 + n) → ⊥) → (i ≡ 0 + pair_at (0 + n) + 1 → ⊥) → 16 * row_of i + column_of i ≡ n → ⊥
        no a b e =
            let y : (0 + n) / 16 ≡ row_of i = omega arith in
            let t : (0 + n) % 16 ≡ column_of i = omega arith in
            let u : row_of i / 8 ≡ i / 256 = omega arith in
            let v : row_of i % 8 ≡ i / 2 % 8 = omega arith in
            let q : pair_at (0 + n) ≡ 16 * (16 * (i / 256) + column_of i) + 2 * (i / 2 % 8) = rw (y, t, u, v) in
            split (i % 2) 1 (λ z. a (omega (arith, whole i))) (λ z. b (omega (arith, whole i)))

    pub pairs_picture : put_pairs lit regs 0 0 1792 out ≡ picture_of lit regs
    pairs_picture =
        picture_made lit regs (put_pairs lit regs 0 0 1792 out) (pairs_length lit regs 0 0 1792 out ∙ size) (λ i h. shown 1792 (omega arith) i (omega arith))
