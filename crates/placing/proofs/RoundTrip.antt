-- A plate out and in again, in and out again, and which files are accepted. Assumes nothing.
use mathlib.Core.Path.{◌≡◌, refl, sym, ap, ap₂, ◌∙◌}
use mathlib.Core.Bool.{true, ◌&&◌}
use mathlib.Core.Logic.{◌↔◌}
use mathlib.Core.List.{List, [], ◌∷◌, ◌++◌}
use Prim.Native.Nat.{ℕ, zero, suc, ◌+◌, ◌*◌, ◌/◌, ◌%◌, ◌<◌, ◌≤◌}
use native.Mathlib.Omega.{arith}
use lib.Count.{ones, ones_in}
use lib.Dec.{eqb}
use lib.ListN.{length, get_or, take, drop, replicate, length-append, length-replicate, get_or-replicate, length-drop, take-append-drop, get_or-append, get_or-eq_default}
use lib.Seq.{length-take-le, get_or-take, drop-drop, ext_get_or}
use borrow.Author.Tests.{eqb-true, eq-eqb}
use Rattle.laws.specs.Lists.{listed}
use Rattle.laws.proofs.Bools.{either, both_left, both_right}
use Rattle.laws.proofs.Order.{split}
use Rattle.laws.proofs.Packed.{listed_length, listed_at, listed_ext, listed_of}
use Rattle.tiles.specs.Tiles.{shade_in, area_of, Bytes}
use Rattle.tiles.proofs.Area.{Alike, shade_in_small, bytes_alike, area_shown}
use Rattle.timing.specs.Lent.{banks_allowed, ram_allowed}
use Rattle.plates.specs.Grey.{header, grey_of, grey_at, plate_of}
use Rattle.shades.specs.Shades.{shade_nth, shades_of}
use Rattle.placing.specs.Placing.{has_header, is_grey, only_greys, pixels_of, is_plate, shade_of, shade_at, placed_area, placed_in}
use Rattle.placing.proofs.Each.{each_at, each_all}
use Rattle.placing.proofs.Placed.{plate_length}
use Rattle.placing.proofs.Left.{area_placed, left_length, left_bytes, left_shades}

-- ---- shades and greys

-- a shade's grey has that shade
shade_back : (s : ℕ) → s < 4 → shade_of (grey_of s) ≡ s
unfolding shade_of grey_of
shade_back s h = omega arith

-- what holds of the four greys holds of each grey
by_grey : (P : ℕ → Type 0) → P 255 → P 170 → P 85 → P 0 → (g : ℕ) → is_grey g ≡ true → P g
unfolding is_grey
by_grey P a b c d g e =
    either (eqb g 255) (λ t. rw (eqb-true g 255 t) a)
    (λ f. either (eqb g 170) (λ t. rw (eqb-true g 170 t) b)
    (λ h. either (eqb g 85) (λ t. rw (eqb-true g 85 t) c)
    (λ k. rw (eqb-true g 0 (rw (f, h, k) at e)) d)))

-- a grey's shade has that grey
grey_back : (g : ℕ) → is_grey g ≡ true → grey_of (shade_of g) ≡ g
unfolding grey_of shade_of
grey_back = by_grey (λ g. grey_of (shade_of g) ≡ g) refl refl refl refl

-- what holds of the four shades holds of each
by_shade : (P : ℕ → Type 0) → P 0 → P 1 → P 2 → P 3 → (s : ℕ) → s < 4 → P s
by_shade P a b c d zero h = a
by_shade P a b c d (suc zero) h = b
by_shade P a b c d (suc (suc zero)) h = c
by_shade P a b c d (suc (suc (suc zero))) h = d
by_shade P a b c d (suc (suc (suc (suc s)))) h = absurd (omega arith)

shade_grey : (s : ℕ) → s < 4 → is_grey (grey_of s) ≡ true
unfolding grey_of is_grey
shade_grey = by_shade (λ s. is_grey (grey_of s) ≡ true) refl refl refl refl

-- the table of the four greys
abbrev pub greys : List ℕ
greys = 255 ∷ 170 ∷ 85 ∷ 0 ∷ []

by_table : (s : ℕ) → s < 4 → grey_of s ≡ get_or greys s 0
unfolding grey_of
by_table = by_shade (λ s. grey_of s ≡ get_or greys s 0) refl refl refl refl

-- The greys of an export are the shades that are read, through the table
pub plate_shades : (ram : List ℕ) → plate_of ram ≡ header ++ listed (λ k. get_or greys (get_or (shades_of ram) k 0) 0) 14336
unfolding plate_of grey_at shades_of
plate_shades ram =
    ap (λ (l : List ℕ). header ++ l)
    (listed_ext _ _ 14336
    (λ k h. by_table (shade_nth ram k) (shade_in_small ram (k % 128) (k / 128)) ∙ ap (λ (s : ℕ). get_or greys s 0) (sym (listed_at (shade_nth ram) 14336 k h))))

-- ---- out and in again

-- the pixels of an export, and its shades
plate_pixels : (ram : List ℕ) → pixels_of (plate_of ram) ≡ listed (grey_at ram) 14336
unfolding plate_of header
plate_pixels ram = refl

plate_alike : (ram : List ℕ) → Alike (shade_at (pixels_of (plate_of ram))) (shade_in ram)
unfolding shade_at grey_at
plate_alike ram x y hx hy =
    let a : (128 * y + x) % 128 ≡ x = omega arith in
    let b : (128 * y + x) / 128 ≡ y = omega arith in
    ap (λ (l : List ℕ). shade_of (get_or l (128 * y + x) 0)) (plate_pixels ram)
    ∙ ap shade_of (listed_at (grey_at ram) 14336 (128 * y + x) (omega arith))
    ∙ rw (a, b) (shade_back (shade_in ram x y) (shade_in_small ram x y))

module _ (ram : List ℕ) (long : 8192 ≤ length ram) (bytes : Bytes ram) where
  -- Out and in again gives the same 3,584 bytes
  pub out_in : placed_area (pixels_of (plate_of ram)) ≡ area_of ram
  out_in = area_placed _ ∙ bytes_alike _ _ (plate_alike ram) ∙ sym (area_shown ram long bytes)

  -- and so the same RAM
  pub out_in_ram : placed_in ram (plate_of ram) ≡ ram
  unfolding placed_in
  out_in_ram =
      ap₂ (λ (a r : List ℕ). take 0x100 ram ++ (a ++ r)) out_in (sym (drop-drop 3584 0x100 ram))
      ∙ ap (λ (l : List ℕ). take 0x100 ram ++ l) (take-append-drop 3584 (drop 0x100 ram))
      ∙ take-append-drop 0x100 ram

-- ---- in and out again

module _ (file : List ℕ) (is : is_plate file ≡ true) where
  rest : (has_header file && only_greys (pixels_of file)) ≡ true
  unfolding is_plate
  rest = both_right (eqb (length file) 14351) _ is

  plate_header : take 15 file ≡ header
  unfolding header has_header
  plate_header =
      let l : length (take 15 file) ≡ 15 = length-take-le 15 file (omega (arith, plate_length file is)) in
      ext_get_or 0 (take 15 file) header l
      (λ k h.
      let m : k < 15 = omega arith in
      get_or-take 15 file k 0 m ∙ eqb-true _ _ (each_at (λ k. eqb (get_or file k 0) (get_or header k 0)) 15 (both_left (has_header file) _ rest) k m))

  plate_grey : (k : ℕ) → k < 14336 → is_grey (get_or (pixels_of file) k 0) ≡ true
  unfolding only_greys
  plate_grey = each_at (λ k. is_grey (get_or (pixels_of file) k 0)) 14336 (both_right (has_header file) _ rest)

  -- the file, from its pixels
  plate_whole : file ≡ header ++ listed (λ k. get_or (pixels_of file) k 0) 14336
  plate_whole =
      sym (take-append-drop 15 file)
      ∙ ap₂ (λ (a b : List ℕ). a ++ b) plate_header (listed_of (drop 15 file) 14336 (length-drop 15 file ∙ omega (arith, plate_length file is)))

  -- In and out again gives the same file
  pub in_out : (ram : List ℕ) → 8192 ≤ length ram → plate_of (placed_in ram file) ≡ file
  unfolding plate_of grey_at shade_at
  in_out ram long = ap (λ (l : List ℕ). header ++ l) (listed_ext _ _ 14336 same) ∙ sym plate_whole
    where
      same : (k : ℕ) → k < 14336 → grey_of (shade_nth (placed_in ram file) k) ≡ get_or (pixels_of file) k 0
      same k h =
          let e : 128 * (k / 128) + k % 128 ≡ k = omega arith in
          ap grey_of (left_shades ram file long (k % 128) (k / 128) (omega arith) (omega arith)) ∙ rw e (grey_back _ (plate_grey k h))

-- ---- which files are accepted

-- an export is of the kind that is accepted: its length, its header, its greys
module _ (ram : List ℕ) where
  plate_size : length (plate_of ram) ≡ 14351
  unfolding plate_of header
  plate_size = length-append header (listed (grey_at ram) 14336) ∙ ap (λ (n : ℕ). 15 + n) (listed_length (grey_at ram) 14336)

  plate_has : has_header (plate_of ram) ≡ true
  unfolding has_header plate_of header
  plate_has = each_all _ 15 (λ k h. eq-eqb _ _ (get_or-append header (listed (grey_at ram) 14336) 0 k h))

  plate_only : only_greys (pixels_of (plate_of ram)) ≡ true
  unfolding only_greys grey_at
  plate_only =
      each_all _ 14336
      (λ k h. rw (plate_pixels ram, listed_at (grey_at ram) 14336 k h) (shade_grey (shade_nth ram k) (shade_in_small ram (k % 128) (k / 128))))

  pub plate_is : is_plate (plate_of ram) ≡ true
  unfolding is_plate
  plate_is = rw (eq-eqb (length (plate_of ram)) 14351 plate_size, plate_has, plate_only)

-- the export of the area of some RAM
pub record ExportOf (file : List ℕ) : Type 0 where
  pub ram : List ℕ
  pub lent : ram_allowed (length ram) ≡ true
  pub bytes : Bytes ram
  pub same : plate_of ram ≡ file

-- one bank of zeros
abbrev empty : List ℕ
empty = replicate 8192 0

empty_length : length empty ≡ 8192
empty_length = length-replicate {A = ℕ} 8192 0

empty_long : 8192 ≤ length empty
empty_long = rw empty_length (omega arith)

empty_at : (i : ℕ) → get_or empty i 0 ≡ 0
empty_at i =
    split i 8192 (λ h. get_or-replicate 8192 i 0 0 h) (λ h. get_or-eq_default empty 0 {n = i} (rw empty_length h))

one_bank : ram_allowed 8192 ≡ true
unfolding banks_allowed ones ones_in
one_bank = refl

-- A file is accepted exactly when it is the export of some area
pub accepted : (file : List ℕ) → (is_plate file ≡ true) ↔ ExportOf file
accepted file = (
  λ e. record {
    ram = placed_in empty file;
    lent = ap ram_allowed (left_length empty file empty_long ∙ empty_length) ∙ one_bank;
    bytes = left_bytes empty file empty_long (λ i. rw (empty_at i) (omega arith));
    same = in_out file e empty empty_long;
  },
  λ x. sym (ap is_plate x.same) ∙ plate_is x.ram,
)
