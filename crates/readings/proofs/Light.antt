-- What a frame store meant while it held the image itself, each pixel lit as it was asked for; and that for a capture begun by a start every
-- picture, half picture and reading is now the one that the raw store gave, for all images and registers. The old meaning is for these
-- statements alone; nothing else names it. Assumes nothing.
use mathlib.Core.Bool.{Bool, true, false}
use mathlib.Core.List.{List, ◌++◌}
use mathlib.Core.Path.{◌≡◌, refl, sym, ap, ◌∙◌}
use Prim.Native.Nat.{ℕ, zero, suc, ◌+◌, ◌/◌, ◌%◌, ◌≤◌}
use native.Mathlib.Omega.{arith}
use lib.Dec.{eqb}
use lib.ListN.{set}
use Rattle.laws.specs.Iter.{iter}
use Rattle.laws.proofs.Iter.{iter_keeps}
use Rattle.laws.proofs.Pick.{pick_ind}
use Rattle.laws.proofs.Bools.{not_both, both_left}
use Rattle.laws.proofs.Packed.{listed_ext}
use Rattle.lighting.specs.Taken.{setting_of}
use Rattle.lighting.specs.Light.{light_frame, byte_at, lit_of}
use Rattle.sensor.proofs.Rows.{Alike, rows}
use Rattle.sensor.proofs.Lit.{light_alike}
use Rattle.tiles.specs.Picture.{picture_of}
use Rattle.tiles.specs.Aside.{pixels}
use Rattle.tiles.proofs.Lit.{picture_light, pixels_light}
use Rattle.timing.specs.Timing.{total_of}
use Rattle.timing.proofs.Lit.{written_lit}
use Rattle.controller.specs.declared.Controller.{Controller}
use Rattle.controller.specs.State.{started}
use Rattle.capture.specs.Capture.{Ticking, begun, moved, ended, running, runs, cycle, ticks, from}
use Rattle.cartridge.specs.Bus.{is_start, capture_written, store_written}
use Rattle.capture.proofs.Ticks.{rest}
use Rattle.plates.specs.Grey.{header}
use Rattle.readings.specs.Readings.{reading, readings_of}
use Rattle.readings.proofs.Before.{cycle_before}

-- ---- the old meaning: an image in the store, lit by the registers taken

abbrev pub picture_before : List ℕ → List ℕ → List ℕ
picture_before store regs = picture_of (lit_of store (setting_of regs)) regs

abbrev pub pixels_before : List ℕ → List ℕ → ℕ → ℕ → List ℕ → List ℕ
pixels_before store regs from to ram = pixels (lit_of store (setting_of regs)) regs from to ram

abbrev pub ticks_before : List ℕ → ℕ → Ticking → Ticking
ticks_before store n w = iter (cycle_before store) n w

abbrev pub readings_before : List ℕ → List ℕ → List ℕ
readings_before store regs = readings_of (lit_of store (setting_of regs)) regs

-- ---- it is the meaning now, of the light that a start puts into the store

module _ {lit mit : ℕ → ℕ → ℕ} (alike : Alike lit mit) where
  cycle_lit : (w : Ticking) → cycle lit w ≡ cycle mit w
  unfolding cycle runs
  cycle_lit w = rw (written_lit alike w.state.taken (w.state.elapsed.0 + 1) w.ram)

  readings_lit : (regs : List ℕ) → readings_of lit regs ≡ readings_of mit regs
  unfolding readings_of reading
  readings_lit regs =
      ap (λ l. header ++ l)
      (listed_ext _ _ 14336 (λ k h. (rows alike regs (k % 128) (k / 128 + 8) (omega arith) (omega arith) (omega arith)).value))

-- a capture that is held has these registers taken
abbrev pub Taken : List ℕ → Ticking → Type 0
Taken regs w = w.state.held ≡ true → w.state.taken ≡ regs

module _ (image regs : List ℕ) where
  -- the store that a start leaves
  abbrev pub light : List ℕ
  light = light_frame image (setting_of regs)

  one_same : (w : Ticking) → Taken regs w → cycle (byte_at light) w ≡ cycle_before image w
  one_same w t = by (running w.state) refl
    where
      by : (b : Bool) → running w.state ≡ b → cycle (byte_at light) w ≡ cycle_before image w
      by true on =
          cycle_lit (light_alike image (setting_of regs)) w
          ∙ ap (λ (r : List ℕ). cycle (lit_of image (setting_of r)) w) (sym (t (both_left w.state.held (started w.state.registers) on)))
      by false off = rest _ w off ∙ sym (rest _ w off)

  one_keeps : (w : Ticking) → Taken regs w → Taken regs (cycle_before image w)
  unfolding cycle runs moved ended
  one_keeps w t =
      pick_ind (Taken regs) (running w.state)
      (λ _.
      pick_ind (λ (c : Controller). c.held ≡ true → c.taken ≡ regs) (eqb (w.state.elapsed.0 + 1) (total_of w.state.taken))
      (λ _ h. not_both h refl)
      (λ _. t))
      (λ _. t)

  ticks_same : (n : ℕ) (w : Ticking) → Taken regs w → ticks (byte_at light) n w ≡ ticks_before image n w
  unfolding iter
  ticks_same zero w t = refl
  ticks_same (suc n) w t =
      ap (cycle (byte_at light)) (ticks_same n w t)
      ∙ one_same (ticks_before image n w) (iter_keeps (cycle_before image) (Taken regs) one_keeps n w t)

  -- what the raw store gave: the picture, any range of its pixels, any number of cycles in any state of that capture, and the readings
  pub record AsRaw : Type 0 where
    pub picture : picture_of (byte_at light) regs ≡ picture_before image regs
    pub half : (from to : ℕ) (ram : List ℕ) → to ≤ 14336 → pixels (byte_at light) regs from to ram ≡ pixels_before image regs from to ram
    pub cycles : (n : ℕ) (w : Ticking) → Taken regs w → ticks (byte_at light) n w ≡ ticks_before image n w
    pub readings : readings_of (byte_at light) regs ≡ readings_before image regs

-- As raw: for every image and all registers
pub as_raw : (image regs : List ℕ) → AsRaw image regs
as_raw image regs = record {
  picture = picture_light image (setting_of regs) regs;
  half = pixels_light image (setting_of regs) regs;
  cycles = ticks_same image regs;
  readings = readings_lit (light_alike image (setting_of regs)) regs;
}

-- and so from any start on: the store that it leaves gives in n cycles what the image gave as a raw store
pub from_start : (c : Controller) (store image ram : List ℕ) (v n : ℕ) → is_start c v ≡ true
    → ticks (byte_at (store_written c store image 0 v)) n (from (capture_written c v) ram) ≡ ticks_before image n (from (capture_written c v) ram)
unfolding store_written capture_written begun
from_start c store image ram v n start = rw start ((as_raw image (set c.registers 0 (v % 8))).cycles n _ (λ _. refl))
