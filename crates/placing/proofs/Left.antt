-- What a placing leaves in the RAM: byte by byte, and pixel by pixel. Assumes nothing.
use mathlib.Core.Path.{◌≡◌, sym, ap, ap₂, ◌∙◌}
use mathlib.Core.List.{List, ◌++◌}
use Prim.Native.Nat.{ℕ, ◌+◌, ◌-◌, ◌*◌, ◌/◌, ◌%◌, ◌<◌, ◌≤◌}
use native.Mathlib.Omega.{arith}
use lib.ListN.{length, get_or, take, drop, length-append, length-drop, get_or-append}
use lib.Seq.{length-take-le, take_at, drop_at, get_or-take, get_or-drop}
use Rattle.laws.specs.Bits.{bit_of}
use Rattle.laws.specs.Lists.{listed}
use lib.Dec.{eqb}
use Rattle.laws.proofs.Pick.{pick_ind}
use Rattle.laws.proofs.Order.{split}
use Rattle.laws.proofs.Packed.{packed_byte, packed_at, listed_length, listed_at, listed_ext}
use Rattle.tiles.specs.Tiles.{place, shade_in, area_of, Bytes}
use Rattle.tiles.proofs.Area.{column_of, row_of, byte_of, byte_of_low, byte_of_high, Alike, Stands, stands}
use Rattle.placing.specs.Placing.{pixels_of, shade_at, placed_byte, placed_area, placed_in}
use Rattle.placing.proofs.Placed.{shade_of_small, placed_byte_lem}

-- 3,584 bytes put from 0100h on
module _ (ram area : List ℕ) (size : length area ≡ 3584) (long : 8192 ≤ length ram) where
  abbrev put : List ℕ
  put = take 0x100 ram ++ (area ++ drop 0xF00 ram)

  front : length (take 0x100 ram) ≡ 0x100
  front = length-take-le 0x100 ram (omega arith)

  past : drop 0x100 put ≡ area ++ drop 0xF00 ram
  past = drop_at (take 0x100 ram) (area ++ drop 0xF00 ram) 0x100 front

  put_length : length put ≡ length ram
  put_length =
      rw (length-append (take 0x100 ram) (area ++ drop 0xF00 ram), length-append area (drop 0xF00 ram), front, size, length-drop 0xF00 ram) (omega arith)

  put_area_lem : area_of put ≡ area
  put_area_lem = ap (take 3584) past ∙ take_at area (drop 0xF00 ram) 3584 size

  put_inside : (i : ℕ) → i < 3584 → get_or put (0x100 + i) 0 ≡ get_or area i 0
  put_inside i h =
      sym (get_or-drop 0x100 put i 0) ∙ ap (λ (l : List ℕ). get_or l i 0) past ∙ get_or-append area (drop 0xF00 ram) 0 i (rw size h)

  put_after : (m : ℕ) → get_or put (0x100 + (3584 + m)) 0 ≡ get_or ram (0xF00 + m) 0
  put_after m =
      sym (get_or-drop 0x100 put (3584 + m) 0)
      ∙ ap (λ (l : List ℕ). get_or l (3584 + m) 0) past
      ∙ sym (get_or-drop 3584 (area ++ drop 0xF00 ram) m 0)
      ∙ ap (λ (l : List ℕ). get_or l m 0) (drop_at area (drop 0xF00 ram) 3584 size)
      ∙ get_or-drop 0xF00 ram m 0

  put_outside : (i : ℕ) → (0x100 ≤ i → i < 0xF00 → ⊥) → get_or put i 0 ≡ get_or ram i 0
  put_outside i out =
      split i 0x100
      (λ l. get_or-append (take 0x100 ram) (area ++ drop 0xF00 ram) 0 i (rw front l) ∙ get_or-take 0x100 ram i 0 l)
      (λ l. split i 0xF00 (λ m. absurd (out l m))
      (λ m.
      let a : 0x100 + (3584 + (i - 0xF00)) ≡ i = omega arith in
      let b : 0xF00 + (i - 0xF00) ≡ i = omega arith in
      rw (a, b) at (put_after (i - 0xF00))))

-- the two bits of a pixel, in the bytes that some shades make
module _ (s : ℕ → ℕ → ℕ) (small : (x y : ℕ) → s x y < 4) (x y : ℕ) (hx : x < 128) where
  abbrev tile : ℕ
  tile = 16 * (16 * (y / 8) + x / 8) + 2 * (y % 8)

  -- the pixel's place among the eight
  eighth : (i d : ℕ) → Stands i (x / 8) y d → s (8 * column_of i + (7 - (7 - x % 8))) (row_of i) ≡ s x y
  eighth i d at =
      let e : 8 * (x / 8) + (7 - (7 - x % 8)) ≡ x = omega arith in
      rw (at.column, at.line, e)

  low_bit : (i : ℕ) → i ≡ tile → bit_of (byte_of s i) (7 - x % 8) ≡ s x y % 2
  low_bit i e =
      let at : Stands i (x / 8) y 0 = stands i (x / 8) y 0 (omega arith) (omega arith) (omega arith) in
      ap (λ (n : ℕ). bit_of n (7 - x % 8)) (byte_of_low s i at.half)
      ∙ packed_at (λ b. s (8 * column_of i + b) (row_of i) % 2) (λ b. omega arith) (7 - x % 8) (omega arith)
      ∙ ap (λ (n : ℕ). n % 2) (eighth i 0 at)

  high_bit : (i : ℕ) → i ≡ tile + 1 → bit_of (byte_of s i) (7 - x % 8) ≡ s x y / 2
  high_bit i e =
      let at : Stands i (x / 8) y 1 = stands i (x / 8) y 1 (omega arith) (omega arith) (omega arith) in
      ap (λ (n : ℕ). bit_of n (7 - x % 8)) (byte_of_high s i at.half)
      ∙ packed_at (λ b. s (8 * column_of i + b) (row_of i) / 2) (λ b. omega (arith, small (8 * column_of i + b) (row_of i))) (7 - x % 8) (omega arith)
      ∙ ap (λ (n : ℕ). n / 2) (eighth i 1 at)

-- a byte is one
byte_of_byte : (s : ℕ → ℕ → ℕ) → ((x y : ℕ) → s x y < 4) → (i : ℕ) → byte_of s i < 256
byte_of_byte s small i =
    pick_ind (λ n. n < 256) (eqb (i % 2) 0)
    (λ t. packed_byte _ (λ b. omega arith))
    (λ f. packed_byte _ (λ b. omega (arith, small (8 * column_of i + b) (row_of i))))

shade_at_small : (pixels : List ℕ) (x y : ℕ) → shade_at pixels x y < 4
unfolding shade_at
shade_at_small pixels x y = shade_of_small (get_or pixels (128 * y + x) 0)

area_length : (pixels : List ℕ) → length (placed_area pixels) ≡ 3584
unfolding placed_area
area_length pixels = listed_length (placed_byte pixels) 3584

-- the area placed, from the file's shades
pub area_placed : (pixels : List ℕ) → placed_area pixels ≡ listed (byte_of (shade_at pixels)) 3584
unfolding placed_area
area_placed pixels = listed_ext _ _ 3584 (λ i h. placed_byte_lem pixels i)

module _ (ram file : List ℕ) (long : 8192 ≤ length ram) where
  -- as long as before
  pub left_length : length (placed_in ram file) ≡ length ram
  unfolding placed_in
  left_length = put_length ram (placed_area (pixels_of file)) (area_length _) long

  -- the 3,584 bytes of the area
  pub left_area : area_of (placed_in ram file) ≡ placed_area (pixels_of file)
  unfolding placed_in
  left_area = put_area_lem ram (placed_area (pixels_of file)) (area_length _) long

  -- bytes outside the area stay
  pub left_outside : (i : ℕ) → (0x100 ≤ i → i < 0xF00 → ⊥) → get_or (placed_in ram file) i 0 ≡ get_or ram i 0
  unfolding placed_in
  left_outside = put_outside ram (placed_area (pixels_of file)) (area_length _) long

  -- byte i of the area
  pub left_inside : (i : ℕ) → i < 3584 → get_or (placed_in ram file) (0x100 + i) 0 ≡ byte_of (shade_at (pixels_of file)) i
  unfolding placed_in placed_area
  left_inside i h =
      put_inside ram (placed_area (pixels_of file)) (area_length _) long i h
      ∙ listed_at (placed_byte (pixels_of file)) 3584 i h
      ∙ placed_byte_lem (pixels_of file) i

  -- each pixel of the picture has the file's shade
  pub left_shades : Alike (shade_in (placed_in ram file)) (shade_at (pixels_of file))
  unfolding shade_in
  left_shades x y hx hy =
      let s = shade_at (pixels_of file) in
      let p : place x y ≡ 0x100 + (place x y - 0x100) = omega arith in
      let q : place x y + 1 ≡ 0x100 + (place x y - 0xFF) = omega arith in
      ap₂ (λ (a b : ℕ). a + 2 * b)
      (bit (place x y) (place x y - 0x100) p (omega arith) ∙ low_bit s (shade_at_small _) x y hx (place x y - 0x100) (omega arith))
      (bit (place x y + 1) (place x y - 0xFF) q (omega arith) ∙ high_bit s (shade_at_small _) x y hx (place x y - 0xFF) (omega arith))
      ∙ omega arith
    where
      bit : (p i : ℕ) → p ≡ 0x100 + i → i < 3584 → bit_of (get_or (placed_in ram file) p 0) (7 - x % 8) ≡ bit_of (byte_of (shade_at (pixels_of file)) i) (7 - x % 8)
      bit p i e h = rw e (ap (λ (n : ℕ). bit_of n (7 - x % 8)) (left_inside i h))

  -- bytes stay bytes
  pub left_bytes : Bytes ram → Bytes (placed_in ram file)
  left_bytes bytes i =
      split i 0x100 (λ l. outside (λ a b. omega arith))
      (λ l. split i 0xF00 (λ m. inside (i - 0x100) (omega arith) (omega arith)) (λ m. outside (λ a b. omega arith)))
    where
      outside : (0x100 ≤ i → i < 0xF00 → ⊥) → get_or (placed_in ram file) i 0 < 256
      outside out = rw (left_outside i out) (bytes i)

      inside : (k : ℕ) → i ≡ 0x100 + k → k < 3584 → get_or (placed_in ram file) i 0 < 256
      inside k e h = rw (e, left_inside k h) (byte_of_byte (shade_at (pixels_of file)) (shade_at_small _) k)
