-- The readings of a held capture: when they are refused, and that they explain its plate. Assumes nothing.
use mathlib.Core.Path.{◌≡◌, refl, sym, ap, ◌∙◌}
use mathlib.Core.Bool.{true, false}
use mathlib.Core.List.{List, ◌++◌}
use Prim.Native.Nat.{ℕ, ◌+◌, ◌/◌, ◌%◌, ◌<◌, ◌≤◌}
use native.Mathlib.Omega.{arith}
use lib.ListN.{length, get_or, drop}
use lib.Seq.{get_or-drop}
use borrow.Author.Tests.{ltb-false}
use Rattle.laws.specs.Lists.{listed}
use Rattle.laws.proofs.Bools.{not_fails}
use Rattle.laws.proofs.Packed.{listed_at}
use Rattle.lighting.specs.Light.{byte_at}
use Rattle.sensor.specs.Shade.{shade_of, shade_at}
use Rattle.tiles.specs.Tiles.{shade_in, area_of, Bytes}
use Rattle.tiles.specs.Picture.{picture_of}
use Rattle.controller.specs.declared.Controller.{Controller}
use Rattle.timing.specs.Lent.{frame_allowed}
use Rattle.controller.specs.State.{cant_exist}
use Rattle.controller.specs.Table.{lowest}
use Rattle.controller.proofs.Refusals.{Refuses, refuses, rising_from, first_fails}
use Rattle.plates.specs.Grey.{header, grey_of, grey_at, plate_of}
use Rattle.shades.specs.Shades.{exported}
use Rattle.readings.specs.Readings.{reading, readings_of, reading_rows, readings_mean}
use Rattle.shades.proofs.Outputs.{in_exported}
use Rattle.plates.proofs.Same.{afresh_alike}

module _ (c : Controller) (store out : List ℕ) where
  -- readings are refused by the lowest number of their rows, and only then
  pub readings_refuse : Refuses (reading_rows c store out) in_exported (λ n. exported n 0 out) (readings_mean c store out) (exported 0 14351 (readings_of (byte_at store) c.taken ++ drop 14351 out))
  unfolding reading_rows readings_mean rising_from
  readings_refuse =
      refuses (reading_rows c store out) in_exported (λ n. exported n 0 out) (exported 0 14351 (readings_of (byte_at store) c.taken ++ drop 14351 out)) (λ n. refl) refl refl

  -- what is so where they are not
  pub record ReadingsFit : Type 0 where
    pub exists : cant_exist c ≡ false
    pub store_fits : frame_allowed (length store) ≡ true
    pub out_fits : 14351 ≤ length out
    pub holds : c.held ≡ true

  pub readings_fit : lowest (reading_rows c store out) ≡ 0 → ReadingsFit
  unfolding reading_rows
  readings_fit e =
      let s = first_fails _ _ e in
      let f = first_fails _ _ s.1 in
      let r = first_fails _ _ f.1 in
      let h = first_fails _ _ r.1 in
      record { exists = s.0; store_fits = not_fails _ f.0; out_fits = ltb-false (length out) 14351 r.0; holds = not_fails _ h.0 }

-- ---- the readings explain the plate

-- byte 15 + k of a file that is the header and pixels
pixel_in : (f : ℕ → ℕ) (k : ℕ) → k < 14336 → get_or (header ++ listed f 14336) (15 + k) 0 ≡ f k
unfolding header
pixel_in f k h = sym (get_or-drop 15 (header ++ listed f 14336) k 0) ∙ listed_at f 14336 k h

-- the matrix answers at a picture row as at its sensor row
same_row : (regs : List ℕ) (x y v : ℕ) → shade_of regs x (y + 8) v ≡ shade_of regs x y v
unfolding shade_of
same_row regs x y v =
    let e : (y + 8) % 4 ≡ y % 4 = omega arith in
    rw e

module _ (lit : ℕ → ℕ → ℕ) (regs ram : List ℕ) (long : 8192 ≤ length ram) (bytes : Bytes ram) (finished : area_of ram ≡ picture_of lit regs) where
  -- the shade at each pixel of the finished plate is the matrix's answer to its value
  pub explained : (k : ℕ) → k < 14336 → shade_in ram (k % 128) (k / 128) ≡ shade_of regs (k % 128) (k / 128) (get_or (readings_of lit regs) (15 + k) 0)
  unfolding readings_of reading shade_at
  explained k h =
      afresh_alike lit regs ram long bytes finished (k % 128) (k / 128) (omega arith) (omega arith)
      ∙ same_row regs (k % 128) (k / 128) _
      ∙ sym (ap (shade_of regs (k % 128) (k / 128)) (pixel_in (reading lit regs) k h))

  -- and so is the grey at each pixel of its file, as a shade
  pub explained_file : (k : ℕ) → k < 14336 → get_or (plate_of ram) (15 + k) 0 ≡ grey_of (shade_of regs (k % 128) (k / 128) (get_or (readings_of lit regs) (15 + k) 0))
  unfolding plate_of grey_at
  explained_file k h = pixel_in (grey_at ram) k h ∙ ap grey_of (explained k h)
