-- What putting pixels does to the RAM, pixel by pixel and byte by byte. Assumes nothing.
use mathlib.Core.Path.{◌≡◌, refl, ap, ◌∙◌}
use mathlib.Core.List.{List}
use Prim.Native.Nat.{ℕ, zero, suc, ◌+◌, ◌-◌, ◌*◌, ◌/◌, ◌%◌, ◌<◌, ◌≤◌}
use native.Mathlib.Omega.{arith}
use lib.ListN.{length, get_or, set, length-set}
use lib.Seq.{get_or-set_same, get_or-set_other}
use borrow.Author.Tests.{lt-leb}
use Rattle.laws.specs.Bits.{put_bit}
use Rattle.laws.proofs.Order.{split}
use Rattle.laws.proofs.BitLaws.{put_bit_same, put_bit_other, put_byte}
use Rattle.sensor.specs.declared.Pixel.{Pixel}
use Rattle.sensor.specs.Shade.{shade_at}
use Rattle.sensor.specs.Aside.{pixel_at}
use Rattle.sensor.proofs.Facts.{shade_small}
use Rattle.tiles.specs.Tiles.{place, put_at, shade_in, Bytes}
use Rattle.tiles.specs.Picture.{picture_shade}
use Rattle.tiles.specs.Aside.{put_nth, pixels}
use Rattle.tiles.proofs.Run.{put_length, pixels_suc}

-- ---- shades

-- the shade of a pixel that was made
pub shade_same : (lit : ℕ → ℕ → ℕ) (regs : List ℕ) (x row : ℕ) (p : Pixel) → p ≡ pixel_at lit regs x row → p.shade ≡ shade_at lit regs x row
shade_same lit regs x row p e = ap (λ (p : Pixel). p.shade) e

-- a shade is one of four
pub shade_bound : (lit : ℕ → ℕ → ℕ) (regs : List ℕ) (x row r : ℕ) → r ≡ shade_at lit regs x row → r < 4
shade_bound lit regs x row r e = rw e (shade_small lit regs x row)

-- ---- one pixel, byte by byte

-- a place is one of two beside each other, or neither
pub by_place : {X : Type 0} (i p : ℕ) → (i ≡ p → X) → (i ≡ p + 1 → X) → ((i ≡ p → ⊥) → (i ≡ p + 1 → ⊥) → X) → X
by_place i p f g h =
    split i p (λ l. h (λ e. omega arith) (λ e. omega arith))
    (λ l. split p i (λ m. split (p + 1) i (λ n. h (λ e. omega arith) (λ e. omega arith)) (λ n. g (omega arith))) (λ m. f (omega arith)))

-- two bytes stored beside each other: each of them, and every other byte
module _ (l : List ℕ) (p a b : ℕ) where
  abbrev pub stored : List ℕ
  stored = set (set l p a) (p + 1) b

  pub stored_length : length stored ≡ length l
  stored_length = simp length-set

  pub stored_first : p < length l → get_or stored p 0 ≡ a
  stored_first h = get_or-set_other (set l p a) (p + 1) p b 0 (λ e. omega arith) ∙ get_or-set_same l p a 0 h

  pub stored_second : p + 1 < length l → get_or stored (p + 1) 0 ≡ b
  stored_second h = get_or-set_same (set l p a) (p + 1) b 0 (simp length-set h)

  pub stored_other : (i : ℕ) → (i ≡ p → ⊥) → (i ≡ p + 1 → ⊥) → get_or stored i 0 ≡ get_or l i 0
  stored_other i x y = get_or-set_other (set l p a) (p + 1) i b 0 y ∙ get_or-set_other l p i a 0 x

-- the tile and the row in it, and so the pixel's row and its eight columns, from the place
place_parts : (x y x' y' : ℕ) → x < 128 → x' < 128 → place x' y' ≡ place x y → (y' ≡ y) × (x' / 8 ≡ x / 8)
place_parts x y x' y' h h' e =
    let a : 16 * (y' / 8) + x' / 8 ≡ 16 * (y / 8) + x / 8 = omega arith in
    let c : y' % 8 ≡ y % 8 = omega arith in
    let b : y' / 8 ≡ y / 8 = omega arith in
    let d : x' / 8 ≡ x / 8 = omega arith in
    (omega arith, d)

module _ (ram : List ℕ) (x y s : ℕ) where
  abbrev low : ℕ
  low = put_bit (get_or ram (place x y) 0) (7 - x % 8) (s % 2)

  abbrev high : ℕ
  high = put_bit (get_or ram (place x y + 1) 0) (7 - x % 8) (s / 2)

  -- the bytes that hold the pixel's bits, and every other byte
  pub put_low : place x y < length ram → get_or (put_at ram x y s) (place x y) 0 ≡ low
  unfolding put_at
  put_low h = stored_first ram (place x y) low high h

  pub put_high : place x y + 1 < length ram → get_or (put_at ram x y s) (place x y + 1) 0 ≡ high
  unfolding put_at
  put_high h = stored_second ram (place x y) low high h

  pub put_elsewhere : (i : ℕ) → (i ≡ place x y → ⊥) → (i ≡ place x y + 1 → ⊥) → get_or (put_at ram x y s) i 0 ≡ get_or ram i 0
  unfolding put_at
  put_elsewhere i = stored_other ram (place x y) low high i

module _ (ram : List ℕ) (x y s : ℕ) (hx : x < 128) (hy : y < 112) where
  -- a byte outside 0100h to 0EFFh
  pub put_outside : (i : ℕ) → (0x100 ≤ i → i < 0xF00 → ⊥) → get_or (put_at ram x y s) i 0 ≡ get_or ram i 0
  put_outside i out = put_elsewhere ram x y s i (λ e. out (omega arith) (omega arith)) (λ e. out (omega arith) (omega arith))

  module _ (hs : s < 4) (long : 8192 ≤ length ram) where
    -- bytes stay bytes
    pub put_bytes_lem : Bytes ram → Bytes (put_at ram x y s)
    put_bytes_lem h i =
        by_place i (place x y)
        (λ e. rw (e, put_low ram x y s (omega arith)) (put_byte _ _ _ (h (place x y)) (omega arith) (omega arith)))
        (λ e. rw (e, put_high ram x y s (omega arith)) (put_byte _ _ _ (h (place x y + 1)) (omega arith) (omega arith)))
        (λ a b. rw (put_elsewhere ram x y s i a b) (h i))

    -- the pixel that is put, and every other pixel
    pub put_same : shade_in (put_at ram x y s) x y ≡ s
    unfolding shade_in
    put_same =
        rw (put_low ram x y s (omega arith), put_high ram x y s (omega arith), put_bit_same (get_or ram (place x y) 0) (7 - x % 8) (s % 2) (omega arith), put_bit_same (get_or ram (place x y + 1) 0) (7 - x % 8) (s / 2) (omega arith))
        (omega arith)

    pub put_other : (x' y' : ℕ) → x' < 128 → (x' ≡ x → y' ≡ y → ⊥) → shade_in (put_at ram x y s) x' y' ≡ shade_in ram x' y'
    unfolding shade_in
    put_other x' y' h ne =
        by_place (place x' y') (place x y)
        (λ e.
        let n : 7 - x' % 8 ≡ 7 - x % 8 → ⊥ = λ q. ne (omega (arith, place_parts x y x' y' hx h e)) (place_parts x y x' y' hx h e).0 in
        rw (e, put_low ram x y s (omega arith), put_high ram x y s (omega arith), put_bit_other (get_or ram (place x y) 0) (7 - x % 8) (s % 2) (7 - x' % 8) (omega arith) n, put_bit_other (get_or ram (place x y + 1) 0) (7 - x % 8) (s / 2) (7 - x' % 8) (omega arith) n))
        (λ e. absurd (omega arith))
        (λ a b. rw (put_elsewhere ram x y s (place x' y') a b, put_elsewhere ram x y s (place x' y' + 1) (λ e. omega arith) (λ e. omega arith)))

-- ---- a range of pixels

module _ (lit : ℕ → ℕ → ℕ) (regs : List ℕ) where
  -- no pixel more
  step_out : (from k : ℕ) (ram : List ℕ) → k < from → pixels lit regs from (suc k) ram ≡ ram
  unfolding pixels
  step_out from k ram h = simp (lt-leb from k h)

  -- what holds of the RAM and is kept by each pixel of the range holds after it
  pub pixels_keep : (P : List ℕ → Type 0) (from to : ℕ) (ram : List ℕ) → ((j : ℕ) (r : List ℕ) → from ≤ j → j < to → P r → P (put_nth lit regs j r)) → P ram → P (pixels lit regs from to ram)
  unfolding pixels
  pixels_keep P from zero ram keep p = p
  pixels_keep P from (suc k) ram keep p =
      split k from
      (λ out. rw (step_out from k ram out) p)
      (λ on. rw (pixels_suc lit regs from k ram on) (keep k _ on (omega arith) (pixels_keep P from k ram (λ j r a b. keep j r a (omega arith)) p)))

  -- pixel j put, by the laws on one pixel
  module _ (j : ℕ) (r : List ℕ) where
    nth_length : length (put_nth lit regs j r) ≡ length r
    unfolding put_nth
    nth_length = put_length r (j % 128) (j / 128) (picture_shade lit regs (j % 128) (j / 128))

    module _ (h : j < 14336) where
      nth_outside : (i : ℕ) → (0x100 ≤ i → i < 0xF00 → ⊥) → get_or (put_nth lit regs j r) i 0 ≡ get_or r i 0
      unfolding put_nth
      nth_outside = put_outside r (j % 128) (j / 128) _ (omega arith) (omega arith)

      module _ (long : 8192 ≤ length r) where
        small : picture_shade lit regs (j % 128) (j / 128) < 4
        small = shade_small lit regs (j % 128) (j / 128 + 8)

        nth_bytes : Bytes r → Bytes (put_nth lit regs j r)
        unfolding put_nth
        nth_bytes = put_bytes_lem r (j % 128) (j / 128) _ (omega arith) (omega arith) small long

        nth_same : shade_in (put_nth lit regs j r) (j % 128) (j / 128) ≡ picture_shade lit regs (j % 128) (j / 128)
        unfolding put_nth
        nth_same = put_same r (j % 128) (j / 128) _ (omega arith) (omega arith) small long

        nth_other : (i : ℕ) → (i ≡ j → ⊥) → shade_in (put_nth lit regs j r) (i % 128) (i / 128) ≡ shade_in r (i % 128) (i / 128)
        unfolding put_nth
        nth_other i ne =
            put_other r (j % 128) (j / 128) _ (omega arith) (omega arith) small long (i % 128) (i / 128) (omega arith) (λ p q. ne (omega arith))

  module _ (from to : ℕ) (ram : List ℕ) where
    pub pixels_length : length (pixels lit regs from to ram) ≡ length ram
    pixels_length =
        pixels_keep (λ r. length r ≡ length ram) from to ram (λ j r a b e. nth_length j r ∙ e) refl

    module _ (most : to ≤ 14336) where
      -- the bytes outside the area
      pub pixels_outside : (i : ℕ) → (0x100 ≤ i → i < 0xF00 → ⊥) → get_or (pixels lit regs from to ram) i 0 ≡ get_or ram i 0
      pixels_outside i out =
          pixels_keep (λ r. get_or r i 0 ≡ get_or ram i 0) from to ram (λ j r a b e. nth_outside j r (omega arith) i out ∙ e) refl

      module _ (long : 8192 ≤ length ram) where
        -- what each pixel keeps of a RAM of this length
        keep_long : (P : List ℕ → Type 0) → ((j : ℕ) (r : List ℕ) → from ≤ j → j < to → 8192 ≤ length r → P r → P (put_nth lit regs j r)) → P ram → P (pixels lit regs from to ram)
        keep_long P keep p =
            (pixels_keep (λ r. (8192 ≤ length r) × P r) from to ram
            (λ j r a b e. (rw (nth_length j r) e.0, keep j r a b e.0 e.1))
            (long, p)
            ).1

        pub pixels_bytes : Bytes ram → Bytes (pixels lit regs from to ram)
        pixels_bytes = keep_long Bytes (λ j r a b l. nth_bytes j r (omega arith) l)

        -- the pixels that are not of the range
        pub pixels_others : (j : ℕ) → (from ≤ j → j < to → ⊥) → shade_in (pixels lit regs from to ram) (j % 128) (j / 128) ≡ shade_in ram (j % 128) (j / 128)
        pixels_others i out =
            keep_long (λ r. shade_in r (i % 128) (i / 128) ≡ shade_in ram (i % 128) (i / 128))
            (λ j r a b l e. nth_other j r (omega arith) l i (λ q. out (omega arith) (omega arith)) ∙ e)
            refl

  -- the pixels of the range
  pub pixels_passed : (from to : ℕ) (ram : List ℕ) → to ≤ 14336 → 8192 ≤ length ram → (j : ℕ) → from ≤ j → j < to
      → shade_in (pixels lit regs from to ram) (j % 128) (j / 128) ≡ picture_shade lit regs (j % 128) (j / 128)
  pixels_passed from zero ram most long j a b = absurd (omega arith)
  pixels_passed from (suc k) ram most long j a b =
      let l : 8192 ≤ length (pixels lit regs from k ram) = rw (pixels_length from k ram) long in
      rw (pixels_suc lit regs from k ram (omega arith))
      (split j k
      (λ before. nth_other k (pixels lit regs from k ram) (omega arith) l j (λ e. omega arith) ∙ pixels_passed from k ram (omega arith) long j a before)
      (λ here. let e : j ≡ k = omega arith in rw e (nth_same k (pixels lit regs from k ram) (omega arith) l)))
