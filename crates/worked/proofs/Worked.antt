-- Worked histories: calls that meet all premises of `cycles`, `picture`, `half_picture`, `outside`, `placed_stays` and `kept_out`, and that are counted, so that nobody doubts that they can be met. Assumes nothing.
use mathlib.Core.Path.{◌≡◌, refl, sym, ap, ◌∙◌}
use mathlib.Core.Bool.{true, false}
use mathlib.Core.List.{List, [], ◌∷◌, ◌++◌}
use Prim.Native.Nat.{ℕ, ◌+◌, ◌*◌, ◌/◌, ◌%◌, ◌<◌, ◌≤◌}
use native.Mathlib.Omega.{arith}
use lib.Count.{ones, ones_in}
use lib.Dec.{eqb, leb}
use lib.ListN.{length, get_or, replicate, length-replicate, get_or-replicate, get_or-eq_default}
use borrow.Author.Tests.{le-leb, lt-leb, leb-true, ne_eqb}
use Rattle.laws.proofs.Bools.{both_right}
use Rattle.laws.proofs.Order.{split}
use Rattle.lighting.specs.Taken.{exposure_of}
use Rattle.timing.specs.Lent.{banks_allowed}
use Rattle.timing.specs.Timing.{total_of, reading_from, first_row}
use Rattle.tiles.specs.Tiles.{shade_in, area_of, Bytes}
use Rattle.tiles.specs.Picture.{picture_shade, picture_of}
use Rattle.controller.specs.Table.{on_cartridge}
use Rattle.plates.specs.Grey.{plate_of}
use Rattle.placing.proofs.RoundTrip.{out_in, plate_is}
use Rattle.history.specs.History.{Call, reset, read, write, tick, inspect, place, fresh, after, counted}
use Rattle.history.specs.Seen.{in_area, byte_in, is_reset, writes_byte, bytes_in}
use Rattle.history.specs.Bits.{cycle_of}
use Rattle.history.proofs.Track.{at_reset, write_accepted, tick_accepted, place_accepted, runs_in, ends, to_registers, starts, image_in, registers_at, to_ram, place_of, lands, enabling, selecting, storing, beginning, running, ending, controlled, registered, written, next, follow, told, lit_by}
use Rattle.history.proofs.Since.{goes_on, Held, Whole, of_pixel, landed, Clear, no_start, last_in, tally_told, starts_told, ends_told}
use Rattle.history.proofs.Shows.{landed_same, starts_told_lem, ends_told_lem}
use Rattle.history.proofs.Counts.{Counts, started_counts, ended_counts}
use Rattle.history.proofs.Outside.{outside}
use Rattle.history.proofs.Follows.{at_reset_lem, moment_next, place_true}
use Rattle.history.proofs.Goes.{on}
use Rattle.history.proofs.Cycles.{cycles}
use Rattle.history.proofs.OwnFrame.{own_frame}
use Rattle.history.proofs.Picture.{picture, told_idle}
use Rattle.history.proofs.HalfPicture.{half_picture}
use Rattle.history.proofs.Placed.{placed_stays, KeptOut, kept_out}

-- one bank of RAM, all FF; a frame store; two images
abbrev pub ram : List ℕ
ram = replicate 8192 0xFF

abbrev pub store : List ℕ
store = replicate 16384 0x00

abbrev pub image : List ℕ
image = replicate 16384 0x80

abbrev pub other : List ℕ
other = replicate 16384 0x40

-- the file of a white plate
abbrev pub white : List ℕ
white = replicate 8192 0x00

abbrev pub file : List ℕ
file = plate_of white

-- it is placed; the registers are selected; exposure 0010h
abbrev pub set_up_lem : List Call
set_up_lem = write image 0x4000 0x10 ∷ write image 0xA003 0x10 ∷ []

abbrev pub before : List Call
before = place file ∷ set_up_lem

-- the start: 03 to register 0
abbrev pub start : Call
start = write image 0xA000 0x03

-- it runs 3,000 cycles, is stopped, and stands still; a placing is refused
abbrev pub stopped : List Call
stopped = tick 3000 ∷ write other 0xA000 0x02 ∷ tick 500 ∷ place file ∷ []

-- another exposure is written; RAM bank 5, of one bank, is selected and RAM writing enabled; a byte lands beside the area; a read, an
-- inspection and a write that is refused; it is resumed
abbrev pub between : List Call
between =
    stopped
    ++ (write other 0xA003 0xFF
    ∷ write other 0x4000 0x05
    ∷ write other 0x0000 0x0A
    ∷ write other 0xB000 0x5A
    ∷ read [] 0xA100
    ∷ inspect
    ∷ write other 0x8000 0xFF
    ∷ write other 0x4000 0x10
    ∷ write other 0xA000 0x03
    ∷ [])

-- and it runs to its end
abbrev pub last : Call
last = tick 40000

abbrev pub calls : List Call
calls = before ++ (start ∷ (between ++ (last ∷ [])))

-- the registers at the start
abbrev pub regs : List ℕ
regs = 0x03 ∷ 0x00 ∷ 0x00 ∷ 0x10 ∷ replicate 50 0x00

-- the premises, each computed
pub record Premises : Type 0 where
  pub regs_at_start : registers_at (told ram store before) start ≡ regs
  -- from its start to its end; no write landed in the area; what is written are bytes
  pub whole : Whole (told ram store before) start between last
  pub untouched : Clear in_area (next (told ram store before) start) between
  pub bytes : bytes_in calls ≡ true
  -- at the stop; no write landed in any pixel
  pub held : Held (told ram store before) start stopped
  pub unwritten : (j : ℕ) → Clear (of_pixel j) (next (told ram store before) start) stopped
  pub ran : (follow (next (told ram store before) start) stopped).capture.ran ≡ 3000
  -- the placing before the start is accepted, and until the start its bytes stay
  pub accepted : place_accepted (at_reset (length ram) (length store)) file ≡ true
  pub waits : no_start (at_reset (length ram) (length store)) set_up_lem ≡ true
  pub alone : Clear in_area (at_reset (length ram) (length store)) set_up_lem
  -- one write landed, at 1000h
  pub landed : (first : ℕ) → last_in 0x1000 (at_reset (length ram) (length store)) calls first ≡ 0x5A
  -- one start and one end; with a start more two and one; with a reset more none
  pub told_once : (starts_told ram store calls ≡ 1) × (ends_told ram store calls ≡ 1)
  pub told_again : (starts_told ram store (calls ++ (start ∷ [])) ≡ 2) × (ends_told ram store (calls ++ (start ∷ [])) ≡ 1)
  pub told_reset : (starts_told ram store (calls ++ (reset ∷ [])) ≡ 0) × (ends_told ram store (calls ++ (reset ∷ [])) ≡ 0)

-- 1000h is no place of the area
pub beside : (p : ℕ) → in_area p ≡ true → eqb p 0x1000 ≡ false
unfolding in_area
beside p here = ne_eqb p 0x1000 (λ e. omega (arith, leb-true p 0xEFF (both_right (leb 0x100 p) (leb p 0xEFF) here)))

pub premises : Premises
unfolding registers_at starts to_registers write_accepted tick_accepted banks_allowed ones ones_in on_cartridge follow next at_reset written registered controlled enabling selecting storing beginning running ending ends runs_in total_of exposure_of goes_on is_reset landed in_area to_ram place_of lands byte_in writes_byte bytes_in last_in no_start place_accepted tally_told
premises = record {
  regs_at_start = refl;
  whole = record { held = record { begins = refl; goes = refl }; over = refl };
  untouched = λ p here. rw (plate_is white, beside p here);
  bytes = refl;
  held = record { begins = refl; goes = refl };
  unwritten = λ j p here. rw (plate_is white);
  ran = refl;
  accepted = rw (plate_is white);
  waits = refl;
  alone = λ p here. refl;
  landed = λ first. refl;
  told_once = (refl, refl);
  told_again = (refl, refl);
  told_reset = (refl, refl);
}

-- a RAM all of one byte
pub all_bytes_lem : (v : ℕ) → v < 256 → Bytes (replicate 8192 v)
all_bytes_lem v small i =
    split i 8192
    (λ l. rw (get_or-replicate {A = ℕ} 8192 i v 0 l) small)
    (λ l. rw (get_or-eq_default (replicate 8192 v) 0 {n = i} (rw (length-replicate {A = ℕ} 8192 v) l)) (omega arith))

pub ram_bytes : Bytes ram
ram_bytes = all_bytes_lem 0xFF (omega arith)

-- Worked cycles: 32,446 + 512 + 16 × 16 are counted, though 500 cycles stood still and more were given than were left
pub worked_cycles : counted (after (fresh ram store) before) (start ∷ (between ++ (last ∷ []))) ≡ 33214
unfolding total_of exposure_of
worked_cycles = cycles ram store before start between last premises.whole ∙ ap total_of premises.regs_at_start

-- Worked picture: the picture of the first image, with the exposure at the start
pub worked_picture : area_of (after (fresh ram store) calls).ram ≡ picture_of (lit_by image regs) regs
unfolding image_in
worked_picture =
    picture ram store before start between last premises.whole premises.untouched ram_bytes premises.bytes ∙ ap (λ (r : List ℕ). picture_of (lit_by image r) r) premises.regs_at_start

-- Worked outside: the byte that landed
pub worked_outside : get_or (after (fresh ram store) calls).ram 0x1000 0 ≡ 0x5A
worked_outside = outside ram store calls 0x1000 (unfold in_area in refl) ∙ premises.landed (get_or ram 0x1000 0)

-- Worked counts: the capture is counted once and once, though it was stopped and resumed; a second start twice and once; and none after a reset
of_calls : (cs : List Call) (s e : ℕ) → (starts_told ram store cs ≡ s) × (ends_told ram store cs ≡ e) → Counts (s % 65536) (e % 65536) (after (fresh ram store) cs).state
of_calls cs s e told = record {
  started = started_counts ram store cs ∙ ap (λ (n : ℕ). n % 65536) (starts_told_lem ram store cs ∙ told.0);
  ended = ended_counts ram store cs ∙ ap (λ (n : ℕ). n % 65536) (ends_told_lem ram store cs ∙ told.1);
}

pub worked_counts : Counts 1 1 (after (fresh ram store) calls).state
worked_counts = of_calls calls 1 1 premises.told_once

pub worked_again : Counts 2 1 (after (fresh ram store) (calls ++ (start ∷ []))).state
worked_again = of_calls (calls ++ (start ∷ [])) 2 1 premises.told_again

pub worked_reset : Counts 0 0 (after (fresh ram store) (calls ++ (reset ∷ []))).state
worked_reset = of_calls (calls ++ (reset ∷ [])) 0 0 premises.told_reset

-- Worked placing: at the start the area is the white plate's, though RAM writing was not enabled
pub worked_placed : area_of (after (fresh ram store) before).ram ≡ area_of white
unfolding after follow next at_reset
worked_placed =
    let m = moment_next _ _ (at_reset_lem ram store) (place file) in
    placed_stays ram store [] file set_up_lem (place_true ram store [] file ∙ premises.accepted) (told_idle set_up_lem _ _ m refl premises.waits)
    (λ p here. sym (landed_same set_up_lem _ _ m p) ∙ premises.alone p here)
    ∙ out_in white (omega (arith, length-replicate {A = ℕ} 8192 0x00)) (all_bytes_lem 0x00 (omega arith))

-- and at the stop another is refused with number 10, and changes nothing
pub worked_refused : KeptOut (after (fresh ram store) (before ++ (start ∷ stopped))) file
worked_refused = kept_out ram store (before ++ (start ∷ stopped)) file (own_frame ram store before start stopped premises.held).held

ran_so_far : counted (after (fresh ram store) before) (start ∷ stopped) ≡ 3000
ran_so_far = sym (on ram store before start stopped premises.held).ran ∙ premises.ran

cycle_of_lem : (j : ℕ) → cycle_of regs j ≡ 2490 + 2 * j
unfolding cycle_of reading_from first_row exposure_of
cycle_of_lem j = omega arith

module _ (j : ℕ) (most : j < 14336) where
  -- Worked half picture: at the stop pixels 0 to 255 are the fresh picture's
  pub worked_passed : j < 256 → shade_in (after (fresh ram store) (before ++ (start ∷ stopped))).ram (j % 128) (j / 128) ≡ picture_shade (lit_by image regs) regs (j % 128) (j / 128)
  unfolding image_in
  worked_passed l =
      half_picture ram store before start stopped j most premises.held (premises.unwritten j)
      ∙ rw (premises.regs_at_start, ran_so_far, cycle_of_lem j, le-leb (2490 + 2 * j) 3000 (omega arith))

  -- and all the others are what they were
  pub worked_waiting : 256 ≤ j → shade_in (after (fresh ram store) (before ++ (start ∷ stopped))).ram (j % 128) (j / 128) ≡ shade_in (after (fresh ram store) before).ram (j % 128) (j / 128)
  worked_waiting l =
      half_picture ram store before start stopped j most premises.held (premises.unwritten j)
      ∙ rw (premises.regs_at_start, ran_so_far, cycle_of_lem j, lt-leb (2490 + 2 * j) 3000 (omega arith))
