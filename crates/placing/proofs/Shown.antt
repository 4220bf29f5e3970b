-- The area filled row by row of the picture: two bytes a turn, which stand apart. Assumes nothing.
use mathlib.Core.Path.{◌≡◌, sym, ap₂, ◌∙◌}
use mathlib.Core.List.{List}
use Prim.Native.Nat.{ℕ, ◌+◌, ◌*◌, ◌/◌, ◌%◌, ◌<◌}
use native.Mathlib.Omega.{arith}
use lib.ListN.{length, get_or, set, length-set}
use lib.Seq.{get_or-set_same, get_or-set_other}
use Rattle.laws.specs.Lists.{listed}
use Rattle.laws.proofs.Filled.{filled_all}
use Rattle.laws.proofs.Order.{split}
use Rattle.placing.specs.Placing.{placed_byte}
use Rattle.placing.specs.Aside.{lows_at, highs_at}
use Rattle.placing.proofs.Placed.{placed_low, placed_high}

-- the turn in which byte i is put
abbrev pub turn_of : ℕ → ℕ
turn_of i = 16 * (8 * (i / 256) + i / 2 % 8) + i / 16 % 16

-- the place of the two of turn t of row y
abbrev pub place_of : ℕ → ℕ → ℕ
place_of y t = 16 * (16 * (y / 8) + t) + 2 * (y % 8)

-- a turn tells its row and its column
apart : (a b c y t : ℕ) → b < 8 → c < 16 → t < 16 → 16 * (8 * a + b) + c ≡ 16 * y + t → (a ≡ y / 8) × (b ≡ y % 8) × (c ≡ t)
apart a b c y t hb hc ht e =
    let r : 8 * a + b ≡ y = omega arith in
    (omega arith, omega arith, omega arith)

-- and so the two bytes
turn_place : (i y t : ℕ) → t < 16 → turn_of i ≡ 16 * y + t → i ≡ place_of y t + i % 2
turn_place i y t h e =
    let p = apart (i / 256) (i / 2 % 8) (i / 16 % 16) y t (omega arith) (omega arith) h e in
    let q : i / 16 ≡ 16 * (i / 256) + i / 16 % 16 = omega arith in
    let r : i % 16 ≡ 2 * (i / 2 % 8) + i % 2 = omega arith in
    let n : i ≡ 16 * (i / 16) + i % 16 = omega arith in
    let whole : i ≡ 16 * (16 * (i / 256) + i / 16 % 16) + 2 * (i / 2 % 8) + i % 2 = n ∙ ap₂ (λ (a b : ℕ). 16 * a + b) q r ∙ omega arith in
    whole ∙ rw (p.0, p.1, p.2)

-- the bytes of the first n turns are f's
pub record Shown (f : ℕ → ℕ) (n : ℕ) (area : List ℕ) : Type 0 where
  pub whole : length area ≡ 3584
  pub same : (i : ℕ) → i < 3584 → turn_of i < n → get_or area i 0 ≡ f i

module _ (f : ℕ → ℕ) where
  pub shown_none : (area : List ℕ) → length area ≡ 3584 → Shown f 0 area
  shown_none area e = record { whole = e; same = λ i h l. absurd (omega arith) }

  pub shown_to : {n m : ℕ} {area : List ℕ} → Shown f n area → n ≡ m → Shown f m area
  shown_to s e = rw (sym e) s

  pub shown_all : {area : List ℕ} {n : ℕ} → Shown f n area → n ≡ 1792 → area ≡ listed f 3584
  shown_all s e = filled_all f (record { whole = s.whole; same = λ k h. s.same k h (omega arith) })

  -- turn t of row y
  pub shown_more : (y t low high : ℕ) (area : List ℕ) → y < 112 → t < 16 → Shown f (16 * y + t) area → low ≡ f (place_of y t) → high ≡ f (place_of y t + 1) → Shown f (16 * y + t + 1) (set (set area (place_of y t) low) (place_of y t + 1) high)
  shown_more y t low high area hy ht s el eh = record {
    whole = length-set (set area (place_of y t) low) (place_of y t + 1) high ∙ length-set area (place_of y t) low ∙ s.whole;
    same = by;
  }
    where
      before : (n : ℕ) → n < 16 * y + t + 1 → (n ≡ 16 * y + t → ⊥) → n < 16 * y + t
      before n l d = split n (16 * y + t) (λ m. m) (λ m. absurd (d (omega arith)))

      -- bytes of other turns
      other : (i : ℕ) → i < 3584 → turn_of i < 16 * y + t + 1 → (i ≡ place_of y t → ⊥) → (i ≡ place_of y t + 1 → ⊥) → get_or (set (set area (place_of y t) low) (place_of y t + 1) high) i 0 ≡ f i
      other i h l a b =
          let neither : i ≡ place_of y t + i % 2 → ⊥ = λ e. split (i % 2) 1 (λ z. a (omega arith)) (λ z. b (omega arith)) in
          get_or-set_other (set area (place_of y t) low) (place_of y t + 1) i high 0 b ∙ get_or-set_other area (place_of y t) i low 0 a ∙ s.same i h (before (turn_of i) l (λ e. neither (turn_place i y t ht e)))

      first : get_or (set (set area (place_of y t) low) (place_of y t + 1) high) (place_of y t) 0 ≡ f (place_of y t)
      first =
          get_or-set_other (set area (place_of y t) low) (place_of y t + 1) (place_of y t) high 0 (λ e. omega arith)
          ∙ get_or-set_same area (place_of y t) low 0 (rw s.whole (omega arith))
          ∙ el

      second : get_or (set (set area (place_of y t) low) (place_of y t + 1) high) (place_of y t + 1) 0 ≡ f (place_of y t + 1)
      second = get_or-set_same (set area (place_of y t) low) (place_of y t + 1) high 0 (rw (length-set area (place_of y t) low, s.whole) (omega arith)) ∙ eh

      by : (i : ℕ) → i < 3584 → turn_of i < 16 * y + t + 1 → get_or (set (set area (place_of y t) low) (place_of y t + 1) high) i 0 ≡ f i
      by i h l =
          split i (place_of y t) (λ m. other i h l (λ e. omega arith) (λ e. omega arith))
          (λ m. split i (place_of y t + 1)
          (λ n. let e : i ≡ place_of y t = omega arith in rw e first)
          (λ n. split i (place_of y t + 2)
          (λ p. let e : i ≡ place_of y t + 1 = omega arith in rw e second)
          (λ p. other i h l (λ e. omega arith) (λ e. omega arith))))

-- ---- the two bytes of turn t of row y

module _ (pixels : List ℕ) (y t : ℕ) (h : t < 16) where
  abbrev j : ℕ
  j = 8 * (16 * (y / 8) + t) + y % 8

  eight : j / 8 ≡ 16 * (y / 8) + t
  eight = omega arith

  pixels_at : 128 * (8 * (j / 128) + j % 8) + 8 * (j / 8 % 16) ≡ 128 * y + 8 * t
  pixels_at =
      let a : j / 128 ≡ y / 8 = omega arith in
      let b : j % 8 ≡ y % 8 = omega arith in
      let c : j / 8 % 16 ≡ t = rw eight (omega arith) in
      rw (a, b, c) (omega arith)

  place_at : 2 * j ≡ place_of y t
  place_at = omega arith

  pub shown_low : lows_at pixels (128 * y + 8 * t) ≡ placed_byte pixels (place_of y t)
  shown_low = rw (pixels_at, place_at) at (placed_low pixels j)

  pub shown_high : highs_at pixels (128 * y + 8 * t) ≡ placed_byte pixels (place_of y t + 1)
  shown_high = rw (pixels_at, place_at) at (placed_high pixels j)
