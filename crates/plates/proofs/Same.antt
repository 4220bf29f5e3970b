-- A plate's file has all of the picture area and nothing else of the RAM. Assumes nothing.
use mathlib.Core.Path.{◌≡◌, sym, ap, ap₂, ◌∙◌}
use mathlib.Core.Logic.{◌↔◌}
use mathlib.Core.List.{List, ◌++◌}
use Prim.Native.Nat.{ℕ, ◌+◌, ◌-◌, ◌*◌, ◌/◌, ◌%◌, ◌<◌, ◌≤◌}
use native.Mathlib.Omega.{arith}
use lib.ListN.{length, get_or, drop}
use lib.Seq.{get_or-take, get_or-drop}
use Rattle.laws.specs.Lists.{listed}
use Rattle.laws.specs.Bits.{bit_of}
use Rattle.laws.proofs.Packed.{listed_at, listed_ext}
use Rattle.tiles.specs.Tiles.{place, shade_in, area_of, Bytes}
use Rattle.tiles.specs.Picture.{picture_shade, picture_of}
use Rattle.tiles.specs.Aside.{pixels}
use Rattle.tiles.proofs.Pixels.{pixels_passed}
use Rattle.tiles.proofs.Area.{Alike, area_ext, shade_in_small, pixels_whole}
use Rattle.plates.specs.Grey.{header, grey_of, grey_at, plate_of, plate_afresh}

-- a byte of the area
area_at : (ram : List ℕ) (i : ℕ) → i < 3584 → get_or (area_of ram) i 0 ≡ get_or ram (0x100 + i) 0
area_at ram i h = get_or-take 3584 (drop 0x100 ram) i 0 h ∙ get_or-drop 0x100 ram i 0

-- RAMs with the same area show the same shades
pub area_alike : (ram ram' : List ℕ) → area_of ram ≡ area_of ram' → Alike (shade_in ram) (shade_in ram')
unfolding shade_in
area_alike ram ram' e x y hx hy =
    let p : place x y ≡ 0x100 + (place x y - 0x100) = omega arith in
    let q : place x y + 1 ≡ 0x100 + (place x y - 0xFF) = omega arith in
    ap₂ (λ (a b : ℕ). bit_of a (7 - x % 8) + 2 * bit_of b (7 - x % 8)) (byte (place x y) (place x y - 0x100) p (omega arith)) (byte (place x y + 1) (place x y - 0xFF) q (omega arith))
  where
    byte : (p i : ℕ) → p ≡ 0x100 + i → i < 3584 → get_or ram p 0 ≡ get_or ram' p 0
    byte p i h l = rw h (sym (area_at ram i l) ∙ ap (λ (a : List ℕ). get_or a i 0) e ∙ area_at ram' i l)

-- shades that agree make the same file
pub alike_plate : (ram ram' : List ℕ) → Alike (shade_in ram) (shade_in ram') → plate_of ram ≡ plate_of ram'
unfolding plate_of grey_at
alike_plate ram ram' e =
    ap (λ (l : List ℕ). header ++ l) (listed_ext _ _ 14336 (λ k h. ap grey_of (e (k % 128) (k / 128) (omega arith) (omega arith))))

-- and a file tells each shade
grey_tells : (s t : ℕ) → s < 4 → t < 4 → grey_of s ≡ grey_of t → s ≡ t
unfolding grey_of
grey_tells s t hs ht e = omega arith

pub plate_alike : (ram ram' : List ℕ) → plate_of ram ≡ plate_of ram' → Alike (shade_in ram) (shade_in ram')
unfolding plate_of grey_at header
plate_alike ram ram' e x y hx hy =
    let k : ℕ = 128 * y + x in
    let a : k % 128 ≡ x = omega arith in
    let b : k / 128 ≡ y = omega arith in
    let f : listed (λ (n : ℕ). grey_of (shade_in ram (n % 128) (n / 128))) 14336 ≡ listed (λ (n : ℕ). grey_of (shade_in ram' (n % 128) (n / 128))) 14336 = ap (λ (l : List ℕ). drop 15 l) e in
    let g = sym (listed_at (λ (n : ℕ). grey_of (shade_in ram (n % 128) (n / 128))) 14336 k (omega arith)) ∙ ap (λ (l : List ℕ). get_or l k 0) f ∙ listed_at (λ (n : ℕ). grey_of (shade_in ram' (n % 128) (n / 128))) 14336 k (omega arith) in
    rw (a, b) at (grey_tells _ _ (shade_in_small ram (k % 128) (k / 128)) (shade_in_small ram' (k % 128) (k / 128)) g)

module _ (ram ram' : List ℕ) (long : 8192 ≤ length ram) (long' : 8192 ≤ length ram') (bytes : Bytes ram) (bytes' : Bytes ram') where
  -- two RAMs have the same file exactly when they have the same 3,584 area bytes
  pub same_plate : (plate_of ram ≡ plate_of ram') ↔ (area_of ram ≡ area_of ram')
  same_plate = (
    λ e. area_ext ram ram' long long' bytes bytes' (plate_alike ram ram' e),
    λ e. alike_plate ram ram' (area_alike ram ram' e),
  )

-- where the area is the picture afresh, the RAM shows its shades
pub afresh_alike : (lit : ℕ → ℕ → ℕ) (regs ram : List ℕ) → 8192 ≤ length ram → Bytes ram → area_of ram ≡ picture_of lit regs → Alike (shade_in ram) (picture_shade lit regs)
afresh_alike lit regs ram long bytes e x y hx hy =
    let k : ℕ = 128 * y + x in
    let a : k % 128 ≡ x = omega arith in
    let b : k / 128 ≡ y = omega arith in
    area_alike ram (pixels lit regs 0 14336 ram) (e ∙ sym (pixels_whole lit regs ram long bytes)) x y hx hy
    ∙ rw (a, b) at (pixels_passed lit regs 0 14336 ram (omega arith) long k (omega arith) (omega arith))

-- and the file is that of the picture afresh
pub afresh_plate : (lit : ℕ → ℕ → ℕ) (regs ram : List ℕ) → 8192 ≤ length ram → Bytes ram → area_of ram ≡ picture_of lit regs → plate_of ram ≡ plate_afresh lit regs
unfolding plate_of plate_afresh grey_at
afresh_plate lit regs ram long bytes e =
    ap (λ (l : List ℕ). header ++ l)
    (listed_ext _ _ 14336 (λ k h. ap grey_of (afresh_alike lit regs ram long bytes e (k % 128) (k / 128) (omega arith) (omega arith))))
