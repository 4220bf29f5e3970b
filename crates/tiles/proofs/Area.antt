-- The picture's area of the RAM, 0100h to 0EFFh: its bytes are settled by the shades that it shows. Assumes nothing.
use mathlib.Core.Path.{◌≡◌, refl, sym, ap, ap₂, ◌∙◌}
use mathlib.Core.List.{List}
use Prim.Native.Nat.{ℕ, ◌+◌, ◌-◌, ◌*◌, ◌/◌, ◌%◌, ◌<◌, ◌≤◌}
use native.Mathlib.Nat.{div-div-eq-div-mul}
use native.Mathlib.Omega.{arith}
use lib.Dec.{eqb}
use lib.ListN.{length, get_or, drop, length-take, length-drop}
use lib.Seq.{get_or-take, get_or-drop}
use borrow.Author.Tests.{eq-eqb, ne_eqb}
use Rattle.laws.specs.Pick.{pick}
use Rattle.laws.specs.Bits.{bit_of}
use Rattle.laws.proofs.Order.{split}
use Rattle.lighting.specs.Taken.{setting_of}
use Rattle.lighting.specs.Light.{byte_at, lit_of}
use Rattle.sensor.proofs.Rows as sensed
use Rattle.tiles.specs.Tiles.{place, shade_in, area_of, Bytes}
use Rattle.laws.specs.Lists.{listed, packed}
use Rattle.tiles.specs.Picture.{picture_shade, low_byte, high_byte, picture_byte, picture_of}
use Rattle.tiles.specs.Aside.{pixels}
use Rattle.laws.proofs.Packed.{packed_ext, packed_of, listed_ext, listed_of}
use Rattle.tiles.proofs.Pixels.{pixels_length, pixels_bytes, pixels_passed}

-- the tile column and the row of the picture that byte i of the area is of
abbrev pub column_of : ℕ → ℕ
column_of i = i / 16 % 16

abbrev pub row_of : ℕ → ℕ
row_of i = 8 * (i / 256) + i / 2 % 8

-- byte i of the area, from what shade each pixel has
abbrev pub byte_of : (ℕ → ℕ → ℕ) → ℕ → ℕ
byte_of s i =
    pick (eqb (i % 2) 0) (packed (λ b. s (8 * column_of i + b) (row_of i) % 2) 8) (packed (λ b. s (8 * column_of i + b) (row_of i) / 2) 8)

pub byte_of_picture : (lit : ℕ → ℕ → ℕ) (regs : List ℕ) (i : ℕ) → picture_byte lit regs i ≡ byte_of (picture_shade lit regs) i
unfolding picture_byte low_byte high_byte
byte_of_picture lit regs i = refl

-- it turns on the eight pixels alone
pub byte_of_ext : (s t : ℕ → ℕ → ℕ) (i : ℕ) → ((b : ℕ) → b < 8 → s (8 * column_of i + b) (row_of i) ≡ t (8 * column_of i + b) (row_of i)) → byte_of s i ≡ byte_of t i
byte_of_ext s t i e =
    ap₂ (pick (eqb (i % 2) 0))
    (packed_ext _ _ 8 (λ b h. ap (λ (n : ℕ). n % 2) (e b h)))
    (packed_ext _ _ 8 (λ b h. ap (λ (n : ℕ). n / 2) (e b h)))

-- the low byte and the high byte of row y of the tiles in column t
pub byte_of_low : (s : ℕ → ℕ → ℕ) (i : ℕ) → i % 2 ≡ 0 → byte_of s i ≡ packed (λ b. s (8 * column_of i + b) (row_of i) % 2) 8
byte_of_low s i e = simp (eq-eqb (i % 2) 0 e)

pub byte_of_high : (s : ℕ → ℕ → ℕ) (i : ℕ) → i % 2 ≡ 1 → byte_of s i ≡ packed (λ b. s (8 * column_of i + b) (row_of i) / 2) 8
byte_of_high s i e = simp (ne_eqb (i % 2) 0 (λ z. omega arith))

-- where they stand
pub record Stands (i t y d : ℕ) : Type 0 where
  pub column : column_of i ≡ t
  pub line : row_of i ≡ y
  pub half : i % 2 ≡ d

pub stands : (i t y d : ℕ) → t < 16 → d < 2 → i ≡ 16 * (16 * (y / 8) + t) + 2 * (y % 8) + d → Stands i t y d
stands i t y d ht hd e =
    let a : i / 2 ≡ 8 * (16 * (y / 8) + t) + y % 8 = omega arith in
    let b : i / 16 ≡ 16 * (y / 8) + t = omega arith in
    let c : i / 256 ≡ y / 8 = omega arith in
    record { column = omega arith; line = omega arith; half = omega arith }

-- the two bits of a shade that the RAM shows
shows : (ram : List ℕ) (x y : ℕ) → (shade_in ram x y % 2 ≡ bit_of (get_or ram (place x y) 0) (7 - x % 8)) × (shade_in ram x y / 2 ≡ bit_of (get_or ram (place x y + 1) 0) (7 - x % 8))
unfolding shade_in
shows ram x y = (omega arith, omega arith)

pub shade_in_small : (ram : List ℕ) (x y : ℕ) → shade_in ram x y < 4
unfolding shade_in
shade_in_small ram x y = omega arith

-- byte i's tile, row and half of it, put together again
pub whole : (i : ℕ) → 16 * (16 * (i / 256) + column_of i) + 2 * (i / 2 % 8) + i % 2 ≡ i
whole i =
    let a : i / 2 / 8 ≡ i / 16 = div-div-eq-div-mul i 2 8 in
    let b : i / 16 / 16 ≡ i / 256 = div-div-eq-div-mul i 16 16 in
    let c : 16 * (i / 256) + column_of i ≡ i / 16 = omega arith in
    let d : 8 * (i / 16) + i / 2 % 8 ≡ i / 2 = omega arith in
    omega arith

-- bit n of the byte of the area that holds low bits is of the pixel in column 7 − n of the eight
module _ (i n : ℕ) (h : n < 8) where
  abbrev x_of : ℕ
  x_of = 8 * column_of i + (7 - n)

  bit_of_lem : 7 - x_of % 8 ≡ n
  bit_of_lem = omega arith

  place_of : place x_of (row_of i) + i % 2 ≡ 0x100 + i
  place_of =
      let a : x_of / 8 ≡ column_of i = omega arith in
      let b : row_of i / 8 ≡ i / 256 = omega arith in
      let c : row_of i % 8 ≡ i / 2 % 8 = omega arith in
      rw (a, b, c) (omega (arith, whole i))

-- byte i of the area, from the shades that the RAM shows
pub area_byte : (ram : List ℕ) → Bytes ram → (i : ℕ) → i < 3584 → get_or ram (0x100 + i) 0 ≡ byte_of (shade_in ram) i
area_byte ram bytes i h =
    split 0 (i % 2)
    (λ odd.
    packed_of _ (λ b. omega (arith, shade_in_small ram (8 * column_of i + b) (row_of i))) (get_or ram (0x100 + i) 0) (bytes (0x100 + i))
    (λ n l. sym ((shows ram (x_of i n l) (row_of i)).1 ∙ there (place (x_of i n l) (row_of i) + 1) n l (omega (arith, place_of i n l))))
    ∙ sym (byte_of_high (shade_in ram) i (omega arith)))
    (λ even.
    packed_of _ (λ b. omega arith) (get_or ram (0x100 + i) 0) (bytes (0x100 + i))
    (λ n l. sym ((shows ram (x_of i n l) (row_of i)).0 ∙ there (place (x_of i n l) (row_of i)) n l (omega (arith, place_of i n l))))
    ∙ sym (byte_of_low (shade_in ram) i (omega arith)))
  where
    there : (p n : ℕ) (l : n < 8) → p ≡ 0x100 + i → bit_of (get_or ram p 0) (7 - x_of i n l % 8) ≡ bit_of (get_or ram (0x100 + i) 0) n
    there p n l e = ap₂ (λ (k m : ℕ). bit_of (get_or ram k 0) m) e (bit_of_lem i n l)

-- two ways to shade the picture's pixels that agree give the same bytes
abbrev pub Alike : (ℕ → ℕ → ℕ) → (ℕ → ℕ → ℕ) → Type 0
Alike s t = (x y : ℕ) → x < 128 → y < 112 → s x y ≡ t x y

pub bytes_alike : (s t : ℕ → ℕ → ℕ) → Alike s t → listed (byte_of s) 3584 ≡ listed (byte_of t) 3584
bytes_alike s t e =
    listed_ext (byte_of s) (byte_of t) 3584 (λ i h. byte_of_ext s t i (λ b l. e (8 * column_of i + b) (row_of i) (omega arith) (omega arith)))

-- the area of a RAM, from the shades that it shows
pub area_shown : (ram : List ℕ) → 8192 ≤ length ram → Bytes ram → area_of ram ≡ listed (byte_of (shade_in ram)) 3584
area_shown ram long bytes =
    listed_of (area_of ram) 3584 (simp (length-take, length-drop) (omega arith))
    ∙ listed_ext _ (byte_of (shade_in ram)) 3584 (λ i h. get_or-take 3584 (drop 0x100 ram) i 0 h ∙ get_or-drop 0x100 ram i 0 ∙ area_byte ram bytes i h)

-- two RAMs that show the same shades have the same area
pub area_ext : (ram ram' : List ℕ) → 8192 ≤ length ram → 8192 ≤ length ram' → Bytes ram → Bytes ram' → Alike (shade_in ram) (shade_in ram') → area_of ram ≡ area_of ram'
area_ext ram ram' l l' b b' e = area_shown ram l b ∙ bytes_alike _ _ e ∙ sym (area_shown ram' l' b')

-- the picture afresh, from its shades
pub picture_shown : (lit : ℕ → ℕ → ℕ) (regs : List ℕ) → picture_of lit regs ≡ listed (byte_of (picture_shade lit regs)) 3584
unfolding picture_of
picture_shown lit regs = listed_ext _ _ 3584 (λ i h. byte_of_picture lit regs i)

pub picture_same : (lit mit : ℕ → ℕ → ℕ) (regs : List ℕ) → Alike (picture_shade lit regs) (picture_shade mit regs) → picture_of lit regs ≡ picture_of mit regs
picture_same lit mit regs e = picture_shown lit regs ∙ bytes_alike _ _ e ∙ sym (picture_shown mit regs)

-- Lit values that agree in rows 7 to 120 give the same picture under the same taken registers
pub picture_lit : {lit mit : ℕ → ℕ → ℕ} → sensed.Alike lit mit → (regs : List ℕ) → picture_of lit regs ≡ picture_of mit regs
picture_lit {lit} {mit} alike regs =
    picture_same lit mit regs (λ x y hx hy. (sensed.rows alike regs x (y + 8) hx (omega arith) (omega arith)).shade)

-- and so do two images that agree there
pub picture_rows_lem : (f g regs : List ℕ) → ((x row : ℕ) → x < 128 → 7 ≤ row → row ≤ 120 → byte_at f x row ≡ byte_at g x row)
    → picture_of (lit_of f (setting_of regs)) regs ≡ picture_of (lit_of g (setting_of regs)) regs
picture_rows_lem f g regs alike = picture_lit (sensed.lit_rows f g alike (setting_of regs)) regs

-- a RAM that shows the picture's shades has the picture in its area
pub area_whole : (lit : ℕ → ℕ → ℕ) (regs ram : List ℕ) → 8192 ≤ length ram → Bytes ram → Alike (shade_in ram) (picture_shade lit regs) → area_of ram ≡ picture_of lit regs
area_whole lit regs ram long bytes e = area_shown ram long bytes ∙ bytes_alike _ _ e ∙ sym (picture_shown lit regs)

-- all the pixels put are the picture
pub pixels_whole : (lit : ℕ → ℕ → ℕ) (regs ram : List ℕ) → 8192 ≤ length ram → Bytes ram → area_of (pixels lit regs 0 14336 ram) ≡ picture_of lit regs
pixels_whole lit regs ram long bytes =
    area_whole lit regs (pixels lit regs 0 14336 ram) (rw (pixels_length lit regs 0 14336 ram) long)
    (pixels_bytes lit regs 0 14336 ram (omega arith) long bytes)
    (λ x y hx hy.
    let a : (y * 128 + x) % 128 ≡ x = omega arith in
    let b : (y * 128 + x) / 128 ≡ y = omega arith in
    rw (a, b) at (pixels_passed lit regs 0 14336 ram (omega arith) long (y * 128 + x) (omega arith) (omega arith)))

pub picture_made : (lit : ℕ → ℕ → ℕ) (regs l : List ℕ) → length l ≡ 3584 → ((k : ℕ) → k < 3584 → get_or l k 0 ≡ picture_byte lit regs k) → l ≡ picture_of lit regs
unfolding picture_of
picture_made lit regs l e all = listed_of l 3584 e ∙ listed_ext _ (picture_byte lit regs) 3584 all
