-- A placing in a history: what it leaves, that a held capture keeps it out, and the bus writes that it amounts to. Assumes nothing.
use mathlib.Core.Path.{◌≡◌, refl, sym, ap, ◌∙◌}
use mathlib.Core.Bool.{Bool, true, false, not, ◌&&◌, and-true, and-false}
use mathlib.Core.List.{List, [], ◌∷◌, ◌++◌}
use Prim.Native.Nat.{ℕ, zero, suc, ◌+◌, ◌-◌, ◌/◌, ◌%◌, ◌<◌, ◌≤◌}
use native.Mathlib.Nat.{zero-add, zero-mod}
use native.Mathlib.Omega.{arith}
use lib.Dec.{eqb}
use lib.ListN.{length, get_or, set}
use lib.Seq.{get_or-set_other, ext_get_or}
use borrow.Author.Tests.{eqb-true, lt-ltb, le-ltb, le-leb, lt-leb, ltb-false}
use Rattle.laws.specs.Pick.{pick}
use Rattle.laws.proofs.Order.{split}
use Rattle.laws.proofs.Bools.{not_both}
use Rattle.controller.specs.declared.Controller.{Controller}
use Rattle.timing.specs.Lent.{ram_allowed, frame_allowed}
use Rattle.controller.specs.State.{started, cant_exist}
use Rattle.controller.specs.Table.{lowest}
use Rattle.controller.specs.Table.{on_cartridge}
use Rattle.cartridge.specs.Bus.{byte_written, control_written, ram_written, with_enabled, with_select}
use Rattle.controller.proofs.Exists.{exists_parts}
use Rattle.timing.proofs.Lent.{ram_lent}
use Rattle.cartridge.proofs.Written.{written_ram}
use Rattle.tiles.specs.Tiles.{area_of}
use Rattle.desk.specs.Choice.{stored}
use Rattle.desk.proofs.Registers.{stored_length, stored_before, stored_at}
use Rattle.placing.specs.Placing.{is_plate, pixels_of, placed_byte, placed_area, placed_in, place_rows}
use Rattle.placing.proofs.Placed.{place_fits, place_refuses}
use Rattle.placing.proofs.Left.{left_length, left_area}
use Rattle.history.specs.History.{Call, reset, read, write, tick, inspect, choose, place, World, fresh, leaves, answers, refusal_in, count_in, after}
use Rattle.history.specs.Seen.{start_seen, end_seen, idle_through, in_area, accepted, goes_in, lands_seen, AreaLeft}
use Rattle.history.specs.Writes.{writes_from, place_writes}
use Rattle.history.proofs.Area.{area_byte}
use Rattle.history.proofs.Track.{place_accepted, starts, ends, told}
use Rattle.history.proofs.Exists.{exists_enabled, exists_select}
use Rattle.history.proofs.Follows.{Moment, at_reset_lem, moment_next, moment_after, write_leaves, place_leaves, place_number, with_placed}
use Rattle.history.proofs.Goes.{after_append}
use Rattle.history.proofs.Shows.{start_same, end_same}
use Rattle.history.proofs.Outside.{same_size}
use Rattle.history.proofs.OwnFrame.{one_start}
use Rattle.history.proofs.HalfPicture.{allowed_ram}
use Rattle.history.proofs.Picture.{area_stays}
use Rattle.history.proofs.Chosen.{Lends, with_state, select_leaves}
use Rattle.history.proofs.Reachable.{reachable}

-- a call that is seen to start nothing, to end nothing and to run no cycle
pub record Still (w : World) (k : Call) : Type 0 where
  pub no_start : start_seen w k ≡ false
  pub no_end : end_seen w k ≡ false
  pub no_cycle : count_in (answers w k) ≡ 0

module _ (ram store : List ℕ) (cs : List Call) (file : List ℕ) where
  abbrev now : World
  now = after (fresh ram store) cs

  m : Moment (told ram store cs) now
  m = moment_after cs _ _ (at_reset_lem ram store)

  -- Still: after any calls from reset, a placing starts nothing, ends nothing and runs no cycle
  pub place_still : Still (after (fresh ram store) cs) (place file)
  unfolding starts ends answers
  place_still = record { no_start = sym (start_same _ _ m (place file)); no_end = sym (end_same _ _ m (place file)); no_cycle = refl }

  -- Placed: after any calls from reset, an accepted placing changes the area and nothing else, and any other changes nothing
  pub placing_leaves : leaves (after (fresh ram store) cs) (place file)
      ≡ pick (accepted (after (fresh ram store) cs) (place file)) (with_placed (after (fresh ram store) cs) file) (after (fresh ram store) cs)
  unfolding place_accepted
  placing_leaves =
      place_leaves now file m.sound.exists
      ∙ ap (λ (b : Bool). pick b (with_placed now file) now) (sym (place_number now (told ram store cs).capture.image m.told.own m.sound.exists file))

  -- Placed stays: through any calls after it, with no capture held and none that landed in the area, the area's 3,584 bytes are the file's
  pub placed_stays : (later : List Call)
      → accepted (after (fresh ram store) cs) (place file) ≡ true
      → idle_through (leaves (after (fresh ram store) cs) (place file)) later ≡ true
      → AreaLeft (leaves (after (fresh ram store) cs) (place file)) later
      → area_of (after (leaves (after (fresh ram store) cs) (place file)) later).ram ≡ placed_area (pixels_of file)
  unfolding answers
  placed_stays later ok idle left =
      let fits = place_fits now.state now.ram file (sym (place_refuses now.state now.ram file).numbered ∙ eqb-true _ 0 ok) in
      let placed : leaves now (place file) ≡ with_placed now file = placing_leaves ∙ ap (λ (b : Bool). pick b (with_placed now file) now) ok in
      area_stays later _ _ (moment_next _ _ m (place file)) idle left
      ∙ ap (λ (u : World). area_of u.ram) placed
      ∙ left_area now.ram file (ram_lent (length now.ram) fits.ram_fits).least

-- ---- while a capture is held

-- a placing is refused, 8 for the file or else 10, lands nowhere, and leaves all that it finds
pub record KeptOut (w : World) (file : List ℕ) : Type 0 where
  pub number : refusal_in (answers w (place file)) ≡ pick (is_plate file) 10 8
  pub nowhere : (p : ℕ) → lands_seen w (place file) p ≡ false
  pub unchanged : leaves w (place file) ≡ w

module _ (w : World) (file : List ℕ) (exists : cant_exist w.state ≡ false) (fits : ram_allowed (length w.ram) ≡ true) (held : w.state.held ≡ true) where
  held_number : refusal_in (answers w (place file)) ≡ pick (is_plate file) 10 8
  unfolding answers place_rows lowest
  held_number = (place_refuses w.state w.ram file).numbered ∙ rw (exists, fits, held) (eight (is_plate file))
    where
      eight : (b : Bool) → ◌≡◌ {A = ℕ} (pick (not b) 8 10) (pick b 10 8)
      eight true = refl
      eight false = refl

  held_nowhere : (p : ℕ) → lands_seen w (place file) p ≡ false
  unfolding lands_seen
  held_nowhere p = rw held_number (refused (is_plate file))
    where
      there : Bool
      there = goes_in w.state w.ram (place file) p

      refused : (b : Bool) → (there && eqb (pick b 10 8) 0) ≡ false
      refused true = and-false there
      refused false = and-false there

  held_leaves : leaves w (place file) ≡ w
  held_leaves = place_leaves w file exists ∙ rw (fits, held, and-false (is_plate file))

-- Kept out: after any calls from reset, where a capture is held, a placing is kept out
pub kept_out : (ram store : List ℕ) (calls : List Call) (file : List ℕ) → (after (fresh ram store) calls).state.held ≡ true → KeptOut (after (fresh ram store) calls) file
kept_out ram store calls file held =
    let b = one_start ram store calls held in
    let exists = reachable ram store calls in
    let fits : ram_allowed (length (after (fresh ram store) calls).ram) ≡ true = rw (same_size ram store calls) (allowed_ram ram store b.before b.start b.held.begins) in
    record {
      number = held_number (after (fresh ram store) calls) file exists fits held;
      nowhere = held_nowhere (after (fresh ram store) calls) file exists fits held;
      unchanged = held_leaves (after (fresh ram store) calls) file exists fits held;
    }

-- a call is a write
pub record Wrote (k : Call) : Type 0 where
  pub image : List ℕ
  pub address : ℕ
  pub byte : ℕ
  pub is : k ≡ write image address byte

-- Only writes: what lands while a capture is held is a write, so placings between a start and its end break no premise of `end_seen_lem` or `half_seen`
pub only_writes : (ram store : List ℕ) (calls : List Call) (k : Call) (p : ℕ) → (after (fresh ram store) calls).state.held ≡ true
    → lands_seen (after (fresh ram store) calls) k p ≡ true → Wrote k
only_writes ram store calls reset p h l = unfold lands_seen goes_in in not_both l refl
only_writes ram store calls (read rom a) p h l = unfold lands_seen goes_in in not_both l refl
only_writes ram store calls (write image a v) p h l = record { image = image; address = a; byte = v; is = refl }
only_writes ram store calls (tick n) p h l = unfold lands_seen goes_in in not_both l refl
only_writes ram store calls inspect p h l = unfold lands_seen goes_in in not_both l refl
only_writes ram store calls (choose light level plain exposure) p h l = unfold lands_seen goes_in in not_both l refl
only_writes ram store calls (place file) p h l = not_both l ((kept_out ram store calls file h).nowhere p)

-- ---- as bus writes

-- places past those that are stored stay
stored_past : (l : List ℕ) (from : ℕ) (f : ℕ → ℕ) (n i : ℕ) → from + n ≤ i → get_or (stored l from f n) i 0 ≡ get_or l i 0
unfolding stored
stored_past l from f zero i h = refl
stored_past l from f (suc n) i h = get_or-set_other (stored l from f n) (from + n) i (f n) 0 (λ z. omega arith) ∙ stored_past l from f n i (omega arith)

-- the area's bytes stored one after the other are the file placed
stored_placed : (ram file : List ℕ) → 8192 ≤ length ram → stored ram 0x100 (placed_byte (pixels_of file)) 3584 ≡ placed_in ram file
unfolding in_area
stored_placed ram file long =
    let f = placed_byte (pixels_of file) in
    ext_get_or 0 (stored ram 0x100 f 3584) (placed_in ram file) (stored_length ram 0x100 f 3584 ∙ sym (left_length ram file long))
    (λ i _.
    split i 0x100
    (λ low. stored_before ram 0x100 f 3584 i low ∙ sym (area_byte ram file long i ∙ rw (lt-leb 0x100 i low)))
    (λ up.
    split i 0xF00
    (λ inside.
    let at : 0x100 + (i - 0x100) ≡ i = omega arith in
    rw at at (stored_at ram 0x100 f 3584 (i - 0x100) (omega arith) (omega arith))
    ∙ sym (area_byte ram file long i ∙ rw (le-leb 0x100 i up, le-leb i 0xEFF (omega arith))))
    (λ high. stored_past ram 0x100 f 3584 i high ∙ sym (area_byte ram file long i ∙ rw (le-leb 0x100 i up, lt-leb i 0xEFF (omega arith))))))

-- writes to RAM bank 0 of a state with RAM writing enabled and no capture running
module _ (c : Controller) (store image : List ℕ) (exists : cant_exist c ≡ false) (on : c.enabled ≡ true) (zeroth : c.select ≡ 0) (idle : started c.registers ≡ false) (store_fits : frame_allowed (length store) ≡ true) (image_fits : frame_allowed (length image) ≡ true) where
  abbrev with_ram : List ℕ → World
  with_ram r = record { state = c; ram = r; store = store }

  byte_leaves : (r : List ℕ) → ram_allowed (length r) ≡ true → (i v : ℕ) → i < 8192 → leaves (with_ram r) (write image (0xA000 + i) v) ≡ with_ram (set r i v)
  unfolding on_cartridge ram_written
  byte_leaves r fits i v l =
      let a = 0xA000 + i in
      let m : a % 8192 ≡ i = omega arith in
      let at = written_ram c r store image a v (le-ltb a 0x8000 (omega arith)) (rw zeroth refl) in
      write_leaves (with_ram r) image a v exists
      ∙ rw (fits, store_fits, image_fits, le-ltb a 0x8000 (omega arith), le-leb 0xA000 a (omega arith), lt-ltb a 0xC000 (omega arith), at, idle, on, zeroth, zero-mod (length r / 8192), m, zero-add i)

  -- one after the other
  bytes_leave : (r : List ℕ) → ram_allowed (length r) ≡ true → (from : ℕ) (f : ℕ → ℕ) (n : ℕ) → from + n ≤ 8192
      → after (with_ram r) (writes_from image from f n) ≡ with_ram (stored r from f n)
  unfolding after writes_from stored
  bytes_leave r fits from f zero l = refl
  bytes_leave r fits from f (suc n) l =
      after_append (writes_from image from f n) _ (with_ram r)
      ∙ ap (λ (u : World). leaves u (write image (0xA000 + (from + n)) (f n))) (bytes_leave r fits from f n (omega arith))
      ∙ byte_leaves (stored r from f n) (rw (stored_length r from f n) fits) (from + n) (f n) (omega arith)

-- a write that enables or disables RAM writing
enable_leaves : (w : World) (image : List ℕ) → Lends w image → (c : Controller) → cant_exist c ≡ false → (b : Bool)
    → leaves (record { state = c; ram = w.ram; store = w.store }) (write image 0x0000 (pick b 0x0A 0x00)) ≡ record { state = with_enabled c b; ram = w.ram; store = w.store }
unfolding on_cartridge byte_written control_written
enable_leaves w image fits c e true = write_leaves _ image 0x0000 0x0A e ∙ rw (fits.ram_fits, fits.store_fits, fits.image_fits)
enable_leaves w image fits c e false = write_leaves _ image 0x0000 0x00 e ∙ rw (fits.ram_fits, fits.store_fits, fits.image_fits)

module _ (w : World) (image file : List ℕ) where
  abbrev c : Controller
  c = w.state

  abbrev f : ℕ → ℕ
  f = placed_byte (pixels_of file)

  abbrev stored_ram : List ℕ
  stored_ram = stored w.ram 0x100 f 3584

  -- Played: wherever a placing is answered with no refusal, the bus writes that it amounts to, with frame store and image of the size allowed,
  -- leave the state, the RAM and the frame store that the placing leaves
  pub place_writes_lem : refusal_in (answers w (place file)) ≡ 0 → frame_allowed (length w.store) ≡ true → frame_allowed (length image) ≡ true
      → after w (place_writes image w.state.enabled w.state.select file) ≡ leaves w (place file)
  unfolding after place_writes with_enabled with_select answers
  place_writes_lem ok store_fits image_fits =
      let p = place_fits c w.ram file (sym (place_refuses c w.ram file).numbered ∙ ok) in
      let e : cant_exist c ≡ false = p.exists in
      let long : 8192 ≤ length w.ram = (ram_lent (length w.ram) p.ram_fits).least in
      let idle : started c.registers ≡ false = simp (p.none_held, and-true) at (exists_parts c e).holds in
      let s : c.select % 32 ≡ c.select = omega (arith, ltb-false 31 c.select (exists_parts c e).select) in
      let lends : Lends w image = record { ram_fits = p.ram_fits; store_fits = store_fits; image_fits = image_fits } in
      let off : List Call = write image 0x0000 (pick c.enabled 0x0A 0x00) ∷ [] in
      let back : List Call = write image 0x4000 c.select ∷ off in
      let bytes : List Call = writes_from image 0x100 f 3584 in
      let first : List Call = write image 0x4000 0x00 ∷ (bytes ++ back) in
      let c₁ : Controller = with_enabled c true in
      let e₁ : cant_exist c₁ ≡ false = exists_enabled c e true in
      let c₂ : Controller = with_select c₁ 0 in
      let e₂ : cant_exist c₂ ≡ false = exists_select c₁ e₁ 0 in
      let c₃ : Controller = with_select c₂ (c.select % 32) in
      let e₃ : cant_exist c₃ ≡ false = exists_select c₂ e₂ c.select in
      let w' : World = record { state = c₂; ram = stored_ram; store = w.store } in
      let lends' : Lends w' image = record { ram_fits = rw (stored_length w.ram 0x100 f 3584) p.ram_fits; store_fits = store_fits; image_fits = image_fits } in
      ap (λ (u : World). after u first) (enable_leaves w image lends c e true)
      ∙ ap (λ (u : World). after u (bytes ++ back)) (select_leaves w image lends c₁ e₁ 0x00)
      ∙ after_append bytes back (with_state w image lends c₂)
      ∙ ap (λ (u : World). after u back) (bytes_leave c₂ w.store image e₂ refl refl idle store_fits image_fits w.ram p.ram_fits 0x100 f 3584 (omega arith))
      ∙ ap (λ (u : World). after u off) (select_leaves w' image lends' c₂ e₂ c.select)
      ∙ enable_leaves w' image lends' c₃ e₃ c.enabled
      ∙ ap (λ (x : ℕ). with_state w' image lends' (with_enabled (with_select c₂ x) c.enabled)) s
      ∙ ap (λ (r : List ℕ). record { state = c; ram = r; store = w.store }) (stored_placed w.ram file long)
      ∙ sym (place_leaves w file e ∙ rw (p.ram_fits, p.file_fits, p.none_held))
