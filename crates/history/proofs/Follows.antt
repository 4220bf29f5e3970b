-- What the calls alone tell is what the state holds: the state follows the calls, call by call. Assumes nothing.
use mathlib.Core.Path.{◌≡◌, refl, sym, ap, subst, ◌∙◌}
use mathlib.Core.Bool.{Bool, true, false, not, ◌&&◌, and-false}
use mathlib.Core.List.{List, [], ◌∷◌}
use Prim.Native.Nat.{ℕ, ◌+◌, ◌-◌, ◌%◌, ◌<◌, ◌≤◌, min}
use native.Mathlib.Nat.{add-zero}
use native.Mathlib.Omega.{arith}
use lib.Dec.{eqb, ltb}
use lib.ListN.{length, get_or, set, length-set}
use lib.Seq.{get_or-set_same, get_or-set_other}
use borrow.Author.Tests.{ne_eqb, eq-eqb, eqb-true, eqb-false}
use Rattle.laws.specs.Pick.{pick}
use Rattle.laws.proofs.Order.{split}
use Rattle.lighting.specs.Taken.{setting_of}
use Rattle.lighting.specs.Light.{light_frame, byte_at}
use Rattle.sensor.proofs.Lit.{light_length}
use Rattle.laws.proofs.Pick.{paired, pick_ind}
use Rattle.controller.specs.declared.Controller.{Controller}
use Rattle.timing.specs.Timing.{total_of}
use Rattle.controller.specs.State.{started, cant_exist, reset_state, one_more}
use Rattle.capture.specs.Capture.{begun, moved, ended, Ticking, ticks, from}
use Rattle.capture.specs.Capture as capture
use Rattle.cartridge.specs.Bus.{Left, left, byte_written, control_written, register_written, store_written, capture_written, ram_written, ram_writable, with_bank, with_register, with_enabled, with_select, is_start, registers_on}
use Rattle.controller.specs.Table.{on_cartridge}
use Rattle.timing.specs.Lent.{ram_allowed, frame_allowed}
use Rattle.controller.specs.Outcome.{Outcome}
use Rattle.controller.specs.Table.{lowest}
use Rattle.cartridge.specs.Calls.{read_rows, read_means, write_rows, write_means}
use Rattle.capture.specs.Calls.{tick_rows, tick_means}
use Rattle.cartridge.proofs.Refusals.{write_refuses, write_none}
use Rattle.capture.proofs.Refusals.{tick_lent}
use Rattle.controller.proofs.Refusals.{judged_ind, judged_pick}
use Rattle.timing.proofs.Lent.{frame_lent, ram_lent, ram_inside}
use Rattle.laws.proofs.Bools.{either, not_both, both_left, both_right}
use Rattle.controller.proofs.Exists.{before_total}
use Rattle.capture.proofs.Ticks.{idle, going, over}
use Rattle.tiles.proofs.Pixels.{pixels_length}
use Rattle.tiles.proofs.Run.{pixels_none}
use Rattle.tiles.specs.Aside.{pixels}
use Rattle.timing.specs.Aside.{done_by}
use Rattle.std.specs.declared.option.Option.{Option}
use Rattle.desk.specs.Choice.{beyond, registers_chosen, with_registers, choose_rows, choose_means}
use Rattle.desk.proofs.Choices.{choose_none}
use Rattle.placing.specs.Placing.{is_plate, pixels_of, placed_byte, placed_in, place_rows, place_means}
use Rattle.placing.proofs.Placed.{place_none, place_refuses}
use Rattle.placing.proofs.Left.{left_length}
use Rattle.history.specs.History.{Call, reset, read, write, tick, inspect, choose, place, World, fresh, left_by, leaves, answers, refusal_in, count_in, after}
use Rattle.history.specs.Seen.{in_area, byte_in}
use Rattle.history.proofs.Track.{to_ram, place_of, lands, Track, at_reset, write_accepted, tick_accepted, choice_accepted, place_accepted, runs_in, ends, enabling, selecting, storing, beginning, running, ending, controlled, registered, written, next, follow, told, seen, Told}
use Rattle.history.proofs.Area.{area_byte}
use Rattle.history.proofs.Reachable.{Sound, reset_sound, call_sound}

-- ---- a write

abbrev pub world_of : Left → World
world_of l = record { state = l.state; ram = l.ram; store = l.store }

pub write_leaves : (w : World) (image : List ℕ) (a v : ℕ) → cant_exist w.state ≡ false
    → leaves w (write image a v)
    ≡ pick (ram_allowed (length w.ram) && ((frame_allowed (length w.store) && frame_allowed (length image)) && on_cartridge a))
    (world_of (byte_written w.state w.ram w.store image a v))
    w
unfolding leaves write_means
write_leaves w image a v e =
    judged_pick left_by (lowest (write_rows w.state w.ram w.store image a)) _ w (λ k. refl)
    ∙ ap (λ t. pick t (world_of (byte_written w.state w.ram w.store image a v)) w) (write_none w.state w.ram w.store image a e)

-- ---- a choice

pub choose_leaves : (w : World) (light level : ℕ) (plain : Bool) (exposure : Option ℕ) → cant_exist w.state ≡ false
    → leaves w (choose light level plain exposure)
    ≡ pick (not (beyond light level)) (record { state = with_registers w.state (registers_chosen w.state.registers light level plain exposure); ram = w.ram; store = w.store }) w
unfolding leaves choose_means
choose_leaves w light level plain exposure e =
    judged_pick (λ (o : Outcome). record { state = o.state; ram = w.ram; store = w.store }) (lowest (choose_rows w.state light level)) _ w (λ k. refl)
    ∙ ap (λ t. pick t (record { state = with_registers w.state (registers_chosen w.state.registers light level plain exposure); ram = w.ram; store = w.store }) w) (choose_none w.state light level e)

-- ---- a placing

abbrev pub with_placed : World → List ℕ → World
with_placed w file = record { state = w.state; ram = placed_in w.ram file; store = w.store }

pub place_leaves : (w : World) (file : List ℕ) → cant_exist w.state ≡ false
    → leaves w (place file) ≡ pick (ram_allowed (length w.ram) && (is_plate file && not w.state.held)) (with_placed w file) w
unfolding leaves place_means
place_leaves w file e =
    judged_pick (λ (o : Outcome). record { state = o.state; ram = o.ram; store = w.store }) (lowest (place_rows w.state w.ram file)) _ w (λ k. refl)
    ∙ ap (λ t. pick t (with_placed w file) w) (place_none w.state w.ram file e)

-- a write leaves the RAM's length
pub ram_length : (c : Controller) (ram : List ℕ) (a v : ℕ) → length (ram_written c ram a v) ≡ length ram
unfolding ram_written
ram_length c ram a v = pick_ind (λ (r : List ℕ). length r ≡ length ram) (ram_writable c) (λ _. length-set ram _ v) (λ _. refl)

-- a frame store of the size allowed
store_size_lem : (store image : List ℕ) → (frame_allowed (length store) && frame_allowed (length image)) ≡ true → length store ≡ 16384
store_size_lem store image h = frame_lent (length store) (both_left (frame_allowed (length store)) (frame_allowed (length image)) h)

-- ---- a tick

module _ (w : World) (n : ℕ) (exists : cant_exist w.state ≡ false) where
  abbrev lent : Bool
  lent = ram_allowed (length w.ram) && frame_allowed (length w.store)

  abbrev moving : Ticking
  moving = ticks (byte_at w.store) n (from w.state w.ram)

  pub tick_leaves : leaves w (tick n) ≡ pick lent (record { state = moving.state; ram = moving.ram; store = w.store }) w
  unfolding leaves tick_means
  tick_leaves =
      judged_pick left_by (lowest (tick_rows w.state w.ram w.store)) _ w (λ k. refl)
      ∙ ap (λ t. pick t (record { state = moving.state; ram = moving.ram; store = w.store }) w) (tick_lent w.state w.ram w.store exists)

  pub tick_count : count_in (answers w (tick n)) ≡ pick lent moving.ran 0
  unfolding answers tick_means
  tick_count =
      judged_pick (λ (o : Outcome). o.value) (lowest (tick_rows w.state w.ram w.store)) _ 0 (λ k. refl)
      ∙ ap (λ t. pick t moving.ran 0) (tick_lent w.state w.ram w.store exists)

-- ---- call by call

module _ (w : World) (im : List ℕ) (own : w.state.held ≡ true → w.store ≡ light_frame im (setting_of w.state.taken)) where
  abbrev c : Controller
  c = w.state

  abbrev Kept : Track → Controller → Type 0
  Kept t c' = Told t (record { state = c'; ram = w.ram; store = w.store })

  stays : Told (seen w im) w
  stays = record { same = refl; own = own }

  enabled_told : (b : Bool) → Kept (enabling (seen w im) b) (with_enabled c b)
  unfolding enabling with_enabled
  enabled_told b = record { same = refl; own = own }

  bank_told : (n : ℕ) → Kept (seen w im) (with_bank c n)
  unfolding with_bank
  bank_told n = record { same = refl; own = own }

  select_told : (n : ℕ) → Kept (selecting (seen w im) n) (with_select c n)
  unfolding selecting with_select
  select_told n = record { same = refl; own = own }

  stored_told : (i v : ℕ) → Kept (storing (seen w im) (set c.registers i v)) (with_register c i v)
  unfolding storing with_register
  stored_told i v = record { same = refl; own = own }

  control_told : (a v : ℕ) → Kept (controlled (seen w im) a v) (control_written c a v)
  unfolding controlled control_written
  control_told a v =
      paired Kept (ltb a 0x2000)
      (λ _. paired Kept (eqb v 0x0A) (λ _. enabled_told true) (λ _. paired Kept (eqb v 0x00) (λ _. enabled_told false) (λ _. stays)))
      (λ _. paired Kept (ltb a 0x4000) (λ _. bank_told (v % 64)) (λ _. paired Kept (ltb a 0x6000) (λ _. select_told (v % 32)) (λ _. stays)))

  -- a start, and a write that is none
  parted : (p q r : Bool) (x y z u : Controller) (ram image store : List ℕ)
      → left (pick p (pick q x y) (pick r z u)) ram (pick (p && q) image store)
      ≡ pick p (pick q (left x ram image) (left y ram store)) (pick r (left z ram store) (left u ram store))
  parted true true r x y z u ram image store = refl
  parted true false r x y z u ram image store = refl
  parted false q true x y z u ram image store = refl
  parted false q false x y z u ram image store = refl

  begun_told : (image : List ℕ) (v : ℕ) → length w.store ≡ 16384
      → Told (beginning (seen w im) image (set c.registers 0 v)) (record { state = begun c v; ram = w.ram; store = light_frame image (setting_of (set c.registers 0 v)) })
  unfolding beginning begun
  begun_told image v e = record { same = rw (e ∙ sym (light_length image (setting_of (set c.registers 0 v)))); own = λ _. refl }

  abbrev LeftTold : Track → Left → Type 0
  LeftTold t l = Told t (world_of l)

  registers_told : (image : List ℕ) (i v : ℕ) → length w.store ≡ 16384
      → LeftTold (registered (seen w im) image i v) (left (register_written c i v) w.ram (store_written c w.store image i v))
  unfolding registered register_written capture_written store_written is_start
  registers_told image i v e =
      subst (LeftTold (registered (seen w im) image i v))
      (sym (parted (eqb i 0) (eqb (v % 2) 1 && not c.held) (ltb i 54) (begun c (v % 8)) (with_register c 0 (v % 8)) (with_register c i v) c w.ram (light_frame image (setting_of (set c.registers 0 (v % 8)))) w.store))
      (paired LeftTold (eqb i 0)
      (λ _. paired LeftTold (eqb (v % 2) 1 && not c.held) (λ _. begun_told image (v % 8) e) (λ _. stored_told 0 (v % 8)))
      (λ _. paired LeftTold (ltb i 54) (λ _. stored_told i v) (λ _. stays)))

  ram_told : (a v : ℕ) → Told (seen w im) (record { state = c; ram = ram_written c w.ram a v; store = w.store })
  ram_told a v = record { same = rw (ram_length c w.ram a v); own = own }

  written_told : (image : List ℕ) (a v : ℕ) → length w.store ≡ 16384
      → LeftTold (written (seen w im) image a v) (byte_written c w.ram w.store image a v)
  unfolding written byte_written
  written_told image a v e =
      paired LeftTold (ltb a 0x8000)
      (λ _. control_told a v)
      (λ _. paired LeftTold (registers_on c) (λ _. registers_told image (a % 128) v e) (λ _. ram_told a v))

  abbrev frames : List ℕ → Bool
  frames image = frame_allowed (length w.store) && frame_allowed (length image)

  module _ (exists : cant_exist c ≡ false) where
    write_told : (image : List ℕ) (a v : ℕ) → Told (next (seen w im) (write image a v)) (leaves w (write image a v))
    unfolding next write_accepted
    write_told image a v =
        rw (write_leaves w image a v exists)
        (paired Told (ram_allowed (length w.ram) && (frames image && on_cartridge a))
        (λ ok. written_told image a v (store_size_lem w.store image (both_left (frames image) (on_cartridge a) (both_right (ram_allowed (length w.ram)) (frames image && on_cartridge a) ok))))
        (λ _. stays))

    -- what a tick comes to, by the calls alone
    pub record Ticked (n : ℕ) : Type 0 where
      pub told : Told (next (seen w im) (tick n)) (leaves w (tick n))
      pub count : count_in (answers w (tick n)) ≡ runs_in (seen w im) (tick n)
      pub starts_kept : (leaves w (tick n)).state.started ≡ c.started
      pub ends_told : (leaves w (tick n)).state.ended ≡ pick (ends (seen w im) (tick n)) (one_more c.ended) c.ended
      pub ram : (leaves w (tick n)).ram ≡ pixels (byte_at w.store) c.taken (done_by c.taken c.elapsed.0) (done_by c.taken (c.elapsed.0 + runs_in (seen w im) (tick n))) w.ram

    module _ (n : ℕ) where
      abbrev e : ℕ
      e = c.elapsed.0

      abbrev total : ℕ
      total = total_of c.taken

      abbrev runs : ℕ
      runs = runs_in (seen w im) (tick n)

      -- a capture held is not at its end
      before_end : (c.held && eqb e total) ≡ false
      before_end =
          either c.held
          (λ h. simp h (ne_eqb e total (λ z. omega (arith, before_total c exists h))))
          (λ h. simp h)

      -- whether it ends the capture: not where no cycle runs, nor where some are left
      ends_still : runs ≡ 0 → ends (seen w im) (tick n) ≡ false
      unfolding ends
      ends_still z = rw (z, add-zero, before_end)

      ends_on : runs ≡ n → e + n < total → ends (seen w im) (tick n) ≡ false
      unfolding ends
      ends_on z l = rw (z, ne_eqb (e + n) total (omega arith), and-false c.held)

      ends_over : c.held ≡ true → runs ≡ total - e → e < total → ends (seen w im) (tick n) ≡ true
      unfolding ends
      ends_over h z l = rw (z, h, eq-eqb (e + (total - e)) total (omega arith))

      -- what is told after the tick: nothing new, so many cycles more, the end
      next_still : runs ≡ 0 → next (seen w im) (tick n) ≡ seen w im
      unfolding next running
      next_still z = rw (ends_still z, z, add-zero)

      next_on : runs ≡ n → e + n < total → next (seen w im) (tick n) ≡ running (seen w im) (e + n)
      unfolding next
      next_on z l = rw (ends_on z l, z)

      next_over : c.held ≡ true → runs ≡ total - e → e < total → next (seen w im) (tick n) ≡ ending (seen w im)
      unfolding next
      next_over h z l = rw (ends_over h z l)

      -- no cycle runs: all stays
      still : runs ≡ 0 → leaves w (tick n) ≡ w → count_in (answers w (tick n)) ≡ 0 → Ticked n
      still z l k = record {
        told = rw (next_still z, l) stays;
        count = k ∙ sym z;
        starts_kept = rw l;
        ends_told = rw (l, ends_still z);
        ram = rw (z, add-zero, l, pixels_none (byte_at w.store) c.taken (done_by c.taken e) w.ram);
      }

      -- a tick that is refused
      refused : lent w n exists ≡ false → Ticked n
      unfolding runs_in tick_accepted
      refused off = still (rw off) (tick_leaves w n exists ∙ rw off) (tick_count w n exists ∙ rw off)

      -- the capture moved on, and ended, with any RAM of that length
      on_told : (ram : List ℕ) → length ram ≡ length w.ram → Told (running (seen w im) (e + n)) (record { state = moved c (e + n); ram = ram; store = w.store })
      unfolding running moved
      on_told ram l = record { same = rw l; own = own }

      over_told : (ram : List ℕ) → length ram ≡ length w.ram → Told (ending (seen w im)) (record { state = ended c; ram = ram; store = w.store })
      unfolding ending ended
      over_told ram l = record { same = rw l; own = λ h. not_both h refl }

      module _ (ok : lent w n exists ≡ true) where
        -- a tick while no capture runs
        resting : capture.running c ≡ false → Ticked n
        unfolding runs_in tick_accepted
        resting off =
            still (rw (ok, off))
            (tick_leaves w n exists ∙ rw (ok, idle (byte_at w.store) (from c w.ram) n off))
            (tick_count w n exists ∙ rw (ok, idle (byte_at w.store) (from c w.ram) n off))

        module _ (on : capture.running c ≡ true) where
          runs_min : runs ≡ min n (total - e)
          unfolding runs_in tick_accepted
          runs_min = rw (ok, on)

          -- a tick within a capture
          onward : e + n < total → Ticked n
          unfolding moved
          onward l =
              let z : runs ≡ n = runs_min ∙ omega arith in
              let g = going (byte_at w.store) c w.ram on n l in
              record {
                told = rw (next_on z l, tick_leaves w n exists, ok, g) (on_told _ (pixels_length (byte_at w.store) c.taken _ _ w.ram));
                count = tick_count w n exists ∙ rw (ok, g, z);
                starts_kept = rw (tick_leaves w n exists, ok, g);
                ends_told = rw (tick_leaves w n exists, ok, g, ends_on z l);
                ram = rw (tick_leaves w n exists, ok, g, z);
              }

          -- a tick in which it ends
          ending_told : e < total → total ≤ e + n → Ticked n
          unfolding ended
          ending_told b l =
              let z : runs ≡ total - e = runs_min ∙ omega arith in
              let whole : total ≡ e + (total - e) = omega arith in
              let g = over (byte_at w.store) c w.ram on n b (omega arith) in
              let h = both_left c.held (started c.registers) on in
              record {
                told = rw (next_over h z b, tick_leaves w n exists, ok, g) (over_told _ (pixels_length (byte_at w.store) c.taken _ _ w.ram));
                count = tick_count w n exists ∙ rw (ok, g, z);
                starts_kept = rw (tick_leaves w n exists, ok, g);
                ends_told = rw (tick_leaves w n exists, ok, g, ends_over h z b);
                ram = rw (tick_leaves w n exists, ok, g, z) (ap (λ (k : ℕ). pixels (byte_at w.store) c.taken (done_by c.taken e) (done_by c.taken k) w.ram) whole);
              }

      pub tick_told : Ticked n
      tick_told =
          either (lent w n exists)
          (λ ok.
          either (capture.running c)
          (λ on.
          split (e + n) total
          (λ l. onward ok on l)
          (λ l. ending_told ok on (before_total c exists (both_left c.held (started c.registers) on)) l))
          (λ off. resting ok off))
          (λ off. refused off)

    -- a read changes nothing
    read_leaves : (rom : List ℕ) (a : ℕ) → leaves w (read rom a) ≡ w
    unfolding leaves read_means
    read_leaves rom a = judged_ind Same (lowest (read_rows c rom w.ram a)) (λ k. refl) refl
      where
        Same : Outcome → Type 0
        Same o = ◌≡◌ {A = World} (record { state = o.state; ram = o.ram; store = w.store }) w

    reset_told : Told (next (seen w im) reset) (leaves w reset)
    unfolding next leaves at_reset reset_state
    reset_told = record { same = refl; own = λ h. not_both h refl }

    read_told : (rom : List ℕ) (a : ℕ) → Told (next (seen w im) (read rom a)) (leaves w (read rom a))
    unfolding next
    read_told rom a = rw (read_leaves rom a) stays

    inspect_told : Told (next (seen w im) inspect) (leaves w inspect)
    unfolding next leaves
    inspect_told = stays

    choose_told : (light level : ℕ) (plain : Bool) (exposure : Option ℕ) → Told (next (seen w im) (choose light level plain exposure)) (leaves w (choose light level plain exposure))
    unfolding next choice_accepted storing with_registers
    choose_told light level plain exposure =
        rw (choose_leaves w light level plain exposure exists)
        (paired Told (not (beyond light level)) (λ _. record { same = refl; own = own }) (λ _. stays))

    abbrev fits : List ℕ → Bool
    fits file = ram_allowed (length w.ram) && (is_plate file && not c.held)

    -- where a placing is accepted the RAM is of one bank at least
    bank_fits : (file : List ℕ) → fits file ≡ true → 8192 ≤ length w.ram
    bank_fits file ok = (ram_lent (length w.ram) (both_left (ram_allowed (length w.ram)) _ ok)).least

    place_told : (file : List ℕ) → Told (next (seen w im) (place file)) (leaves w (place file))
    unfolding next
    place_told file =
        rw (place_leaves w file exists)
        (pick_ind (Told (seen w im)) (fits file) (λ ok. record { same = rw (left_length w.ram file (bank_fits file ok)); own = own }) (λ _. stays))

    -- what is told after any call is what the world then shows
    call_told : (k : Call) → Told (next (seen w im) k) (leaves w k)
    call_told reset = reset_told
    call_told (read rom a) = read_told rom a
    call_told (write image a v) = write_told image a v
    call_told (tick n) = (tick_told n).told
    call_told inspect = inspect_told
    call_told (choose light level plain exposure) = choose_told light level plain exposure
    call_told (place file) = place_told file

    -- the count returned is the count told
    call_count : (k : Call) → count_in (answers w k) ≡ runs_in (seen w im) k
    unfolding answers runs_in
    call_count reset = refl
    call_count (read rom a) = refl
    call_count (write image a v) = refl
    call_count (tick n) = (tick_told n).count
    call_count inspect = refl
    call_count (choose light level plain exposure) = refl
    call_count (place file) = refl

    -- what is told accepted is answered with no refusal
    pub write_number_lem : (image : List ℕ) (a v : ℕ) → eqb (refusal_in (answers w (write image a v))) 0 ≡ write_accepted (seen w im) image a
    unfolding answers write_accepted
    write_number_lem image a v =
        ap (λ (n : ℕ). eqb n 0) (write_refuses c w.ram w.store image a v).numbered ∙ write_none c w.ram w.store image a exists

    pub place_number : (file : List ℕ) → eqb (refusal_in (answers w (place file))) 0 ≡ place_accepted (seen w im) file
    unfolding answers place_accepted
    place_number file = ap (λ (n : ℕ). eqb n 0) (place_refuses c w.ram file).numbered ∙ place_none c w.ram file exists

    -- ---- the RAM

    -- a call's pixels, by the calls alone
    abbrev put : Call → List ℕ
    put k = pixels (byte_at w.store) c.taken (done_by c.taken c.elapsed.0) (done_by c.taken (c.elapsed.0 + runs_in (seen w im) k)) w.ram

    none_put : (k : Call) → runs_in (seen w im) k ≡ 0 → put k ≡ w.ram
    none_put k z = rw (z, add-zero, pixels_none (byte_at w.store) c.taken (done_by c.taken c.elapsed.0) w.ram)

    landed : (ok low regs on free : Bool) (x y : Controller) (ram store' r : List ℕ) (u : World) → u.ram ≡ ram
        → (pick ok (world_of (pick low (left x ram w.store) (pick regs (left y ram store') (left c (pick (pick on false free) r ram) w.store)))) u).ram
        ≡ pick (ok && (not low && (not regs && (not on && free)))) r ram
    landed false low regs on free x y ram store' r u e = e
    landed true true regs on free x y ram store' r u e = refl
    landed true false true on free x y ram store' r u e = refl
    landed true false false true free x y ram store' r u e = refl
    landed true false false false free x y ram store' r u e = refl

    write_ram : (image : List ℕ) (a v : ℕ)
        → (leaves w (write image a v)).ram ≡ pick (to_ram (seen w im) image a) (set w.ram (place_of (seen w im) a) v) w.ram
    unfolding to_ram place_of write_accepted byte_written ram_written
    write_ram image a v =
        ap (λ (u : World). u.ram) (write_leaves w image a v exists)
        ∙ landed (ram_allowed (length w.ram) && (frames image && on_cartridge a)) (ltb a 0x8000) (registers_on c) (started c.registers) c.enabled _ _ w.ram _ _ w refl

    -- what goes to the RAM, goes inside it, whatever its size
    ram_at : (image : List ℕ) (a : ℕ) → to_ram (seen w im) image a ≡ true → place_of (seen w im) a < length w.ram
    unfolding to_ram place_of write_accepted
    ram_at image a h = ram_inside (length w.ram) (c.select % 16) a (both_left (ram_allowed (length w.ram)) _ (both_left _ _ h))

    write_byte : (image : List ℕ) (a v p : ℕ) → get_or (leaves w (write image a v)).ram p 0 ≡ pick (to_ram (seen w im) image a && eqb p (place_of (seen w im) a)) v (get_or w.ram p 0)
    write_byte image a v p =
        let q = place_of (seen w im) a in
        rw (write_ram image a v)
        (either (to_ram (seen w im) image a)
        (λ yes.
        rw yes
        (either (eqb p q)
        (λ here. let e : p ≡ q = eqb-true p q here in rw (here, e) (get_or-set_same w.ram q v 0 (ram_at image a yes)))
        (λ other. rw other (get_or-set_other w.ram q p v 0 (eqb-false p q other)))))
        (λ none. rw none))

    place_byte : (file : List ℕ) (p : ℕ) → get_or (leaves w (place file)).ram p 0 ≡ pick (fits file && in_area p) (placed_byte (pixels_of file) (p - 0x100)) (get_or w.ram p 0)
    place_byte file p =
        rw (place_leaves w file exists)
        (either (fits file)
        (λ ok. rw ok (area_byte w.ram file (bank_fits file ok) p))
        (λ bad. rw bad))

    -- each byte is one that landed there, or else as the tick's pixels are put
    call_byte : (k : Call) (p : ℕ) → get_or (leaves w k).ram p 0 ≡ pick (lands (seen w im) k p) (byte_in k p) (get_or (put k) p 0)
    unfolding leaves lands runs_in byte_in place_accepted
    call_byte reset p = rw (none_put reset refl)
    call_byte (read rom a) p = ap (λ (u : World). get_or u.ram p 0) (read_leaves rom a) ∙ rw (none_put (read rom a) refl)
    call_byte (write image a v) p = rw (write_byte image a v p, none_put (write image a v) refl)
    call_byte (tick n) p = ap (λ (r : List ℕ). get_or r p 0) (tick_told n).ram
    call_byte inspect p = rw (none_put inspect refl)
    call_byte (choose light level plain exposure) p = rw (none_put (choose light level plain exposure) refl)
    call_byte (place file) p = place_byte file p ∙ rw (none_put (place file) refl)

    -- and there are as many
    call_size : (k : Call) → length (leaves w k).ram ≡ length w.ram
    unfolding leaves
    call_size reset = refl
    call_size (read rom a) = ap (λ (u : World). length u.ram) (read_leaves rom a)
    call_size (write image a v) =
        rw (write_ram image a v) (pick_ind (λ (r : List ℕ). length r ≡ length w.ram) (to_ram (seen w im) image a) (λ _. length-set w.ram _ v) (λ _. refl))
    call_size (tick n) = rw (tick_told n).ram (pixels_length (byte_at w.store) c.taken _ _ w.ram)
    call_size inspect = refl
    call_size (choose light level plain exposure) = refl
    call_size (place file) =
        ap (λ (u : World). length u.ram) (place_leaves w file exists)
        ∙ pick_ind (λ (u : World). length u.ram ≡ length w.ram) (fits file) (λ ok. left_length w.ram file (bank_fits file ok)) (λ _. refl)

-- ---- along a history

-- a moment: what is told is what the world shows, and the state can exist
pub record Moment (t : Track) (w : World) : Type 0 where
  pub told : Told t w
  pub sound : Sound w.state

pub at_reset_lem : (ram store : List ℕ) → Moment (at_reset (length ram) (length store)) (fresh ram store)
unfolding at_reset reset_state
at_reset_lem ram store = record { told = record { same = refl; own = λ h. not_both h refl }; sound = reset_sound }

module _ (t : Track) (w : World) (m : Moment t w) (k : Call) where
  abbrev own : w.state.held ≡ true → w.store ≡ light_frame t.capture.image (setting_of w.state.taken)
  own = m.told.own

  abbrev exists : cant_exist w.state ≡ false
  exists = m.sound.exists

  pub moment_next : Moment (next t k) (leaves w k)
  moment_next = record {
    told = subst (λ (u : Track). Told (next u k) (leaves w k)) (sym m.told.same) (call_told w t.capture.image own exists k);
    sound = call_sound w k m.sound;
  }

  -- the count returned
  pub count_next : count_in (answers w k) ≡ runs_in t k
  count_next = subst (λ (u : Track). count_in (answers w k) ≡ runs_in u k) (sym m.told.same) (call_count w t.capture.image own exists k)

  -- the RAM left: a byte that landed there, or else as the tick's pixels are put
  abbrev pub put_next : List ℕ
  put_next = pixels (byte_at w.store) t.capture.taken (done_by t.capture.taken t.capture.ran) (done_by t.capture.taken (t.capture.ran + runs_in t k)) w.ram

  pub byte_next : (p : ℕ) → get_or (leaves w k).ram p 0 ≡ pick (lands t k p) (byte_in k p) (get_or put_next p 0)
  byte_next p =
      subst
      (λ (u : Track).
      get_or (leaves w k).ram p 0
      ≡ pick (lands u k p) (byte_in k p) (get_or (pixels (byte_at w.store) u.capture.taken (done_by u.capture.taken u.capture.ran) (done_by u.capture.taken (u.capture.ran + runs_in u k)) w.ram) p 0))
      (sym m.told.same)
      (call_byte w t.capture.image own exists k p)

  -- its length stays
  pub size_next : length (leaves w k).ram ≡ length w.ram
  size_next = call_size w t.capture.image own exists k

-- a capture held has cycles left
pub cycles_left : (t : Track) (w : World) → Moment t w → t.capture.held ≡ true → t.capture.ran < total_of t.capture.taken
cycles_left t w m =
    subst (λ (u : Track). u.capture.held ≡ true → u.capture.ran < total_of u.capture.taken) (sym m.told.same)
    (before_total w.state m.sound.exists)

pub moment_after : (cs : List Call) (t : Track) (w : World) → Moment t w → Moment (follow t cs) (after w cs)
unfolding follow after
moment_after [] t w m = m
moment_after (k ∷ cs) t w m = moment_after cs (next t k) (leaves w k) (moment_next t w m k)

-- ---- from reset, over any RAM and frame store

module _ (ram store : List ℕ) (cs : List Call) where
  abbrev t : Track
  t = told ram store cs

  abbrev w : World
  w = after (fresh ram store) cs

  m : Moment t w
  m = moment_after cs _ _ (at_reset_lem ram store)

  -- Told: what any calls alone tell is true of what they leave
  pub told_true : Told (told ram store cs) (after (fresh ram store) cs)
  told_true = m.told

  -- Accepted: the next placing is answered with no refusal just where the calls alone tell so
  pub place_true : (file : List ℕ) → eqb (refusal_in (answers (after (fresh ram store) cs) (place file))) 0 ≡ place_accepted (told ram store cs) file
  place_true file =
      subst (λ (u : Track). eqb (refusal_in (answers w (place file))) 0 ≡ place_accepted u file) (sym m.told.same)
      (place_number w t.capture.image m.told.own m.sound.exists file)
