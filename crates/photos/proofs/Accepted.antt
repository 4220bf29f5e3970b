-- A file is accepted exactly when it is a photograph, with one reading only, and the image is that of its pixels. Assumes nothing.
use mathlib.Core.Path.{◌≡◌, sym, ap, ◌∙◌}
use mathlib.Core.Logic.{◌↔◌}
use mathlib.Core.Bool.{true, ◌&&◌}
use mathlib.Core.List.{List}
use Prim.Native.Nat.{ℕ, ◌≤◌}
use native.Mathlib.Omega.{arith}
use lib.Dec.{leb}
use lib.ListN.{length, take, drop, length-append, length-drop, take-append-drop}
use lib.Seq.{length-take-le, take-append_seam, drop-append_seam}
use borrow.Author.Tests.{leb-true, le-leb}
use Rattle.laws.specs.Lists.{listed}
use Rattle.laws.proofs.Bools.{both_left, both_right}
use Rattle.photos.specs.Header.{Photo}
use Rattle.photos.specs.Aside.{is_header}
use Rattle.photos.specs.Photo.{header_length, is_photo, value_of, image_of}
use Rattle.photos.proofs.Grammar.{reads_header}

-- where the header of a photograph ends
length_header : (file : List ℕ) (p : Photo file) → header_length file ≡ length p.header
length_header file p =
    let e = ap (λ (l : List ℕ). length l) p.whole ∙ length-append p.header p.pixels in
    omega (arith, e, p.rest)

header_is : (file : List ℕ) (p : Photo file) → take (header_length file) file ≡ p.header
header_is file p =
    ap (λ (n : ℕ). take n file) (length_header file p)
    ∙ ap (λ (l : List ℕ). take (length p.header) l) p.whole
    ∙ take-append_seam p.header p.pixels

pixels_are : (file : List ℕ) (p : Photo file) → drop (header_length file) file ≡ p.pixels
pixels_are file p =
    ap (λ (n : ℕ). drop n file) (length_header file p)
    ∙ ap (λ (l : List ℕ). drop (length p.header) l) p.whole
    ∙ drop-append_seam p.header p.pixels

-- the parser accepts exactly the photographs
pub accepted : (file : List ℕ) → (is_photo file ≡ true) ↔ Photo file
unfolding is_photo
accepted file = (
  λ h.
      let n = header_length file in
      let long : 49152 ≤ length file = leb-true 49152 (length file) (both_left (leb 49152 (length file)) _ h) in
      let r = both_right (leb 49152 (length file)) (leb n 256 && is_header (take n file)) h in
      let short : n ≤ 256 = leb-true n 256 (both_left (leb n 256) _ r) in
      record {
        header = take n file;
        pixels = drop n file;
        whole = sym (take-append-drop n file);
        is = (reads_header (take n file)).0 (both_right (leb n 256) (is_header (take n file)) r);
        short = omega (arith, length-take-le n file (omega arith));
        rest = length-drop n file ∙ omega arith;
      },
  λ p.
      let n = length_header file p in
      let e = ap (λ (l : List ℕ). length l) p.whole ∙ length-append p.header p.pixels in
      rw (le-leb 49152 (length file) (omega (arith, e, p.rest)), le-leb (header_length file) 256 (omega (arith, n, p.short)), header_is file p) ((reads_header p.header).1 p.is),
)

-- an accepted file is accepted with one reading only
pub one_reading : (file : List ℕ) (p q : Photo file) → (p.header ≡ q.header) × (p.pixels ≡ q.pixels)
one_reading file p q = (sym (header_is file p) ∙ header_is file q, sym (pixels_are file p) ∙ pixels_are file q)

-- the image is the V of its pixels, row by row
pub photo_image : (file : List ℕ) (p : Photo file) → image_of file ≡ listed (value_of p.pixels) 16384
unfolding image_of
photo_image file p = ap (λ (l : List ℕ). listed (value_of l) 16384) (pixels_are file p)
