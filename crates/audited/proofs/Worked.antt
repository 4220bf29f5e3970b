-- A worked recording: lines from reset of which an audit says that their capture ended whole, so that nobody doubts that this can be met. Assumes nothing.
use mathlib.Core.Path.{◌≡◌, refl, sym, ap, ◌∙◌}
use mathlib.Core.Bool.{true, false}
use mathlib.Core.List.{List, [], ◌∷◌, ◌++◌, map}
use Prim.Native.Nat.{ℕ, ◌%◌, ◌<◌}
use native.Mathlib.Omega.{arith}
use lib.Count.{ones, ones_in}
use Rattle.laws.proofs.Bools.{not_both}
use Rattle.crc.specs.Crc.{crc_of}
use Rattle.lighting.specs.Taken.{exposure_of}
use Rattle.timing.specs.Lent.{banks_allowed}
use Rattle.timing.specs.Timing.{total_of}
use Rattle.controller.specs.Table.{on_cartridge}
use Rattle.plates.specs.Grey.{plate_of}
use Rattle.history.specs.History.{Call, read, write, tick, fresh, leaves, after}
use Rattle.history.specs.History.{World as Found}
use Rattle.history.specs.Seen.{is_reset, in_area, end_seen, AreaLeft, Start, world_after}
use Rattle.history.proofs.Track.{at_reset as trackAtReset, write_accepted, tick_accepted, runs_in, ends, to_registers, starts, registers_at, to_ram, place_of, lands, enabling, selecting, storing, beginning, running, ending, controlled, registered, written, next, follow, told}
use Rattle.history.proofs.Since.{goes_on, Whole, landed, Clear, tally_told, starts_told}
use Rattle.history.proofs.Shows.{starts_told_lem}
use Rattle.history.proofs.Counts.{started_counts}
use Rattle.history.proofs.Cycles.{cycles}
use Rattle.history.proofs.Observed.{starts_seen_lem, ends_seen_lem, goes_seen, landed_seen_lem}
use Rattle.worked.proofs.Worked.{ram, store, image, beside, ram_bytes}
use Rattle.lines.specs.declared.line.Frame.{Frame}
use Rattle.lines.specs.declared.line.Frame.TheVariants.{Reset, Read, Write, Tick, Row, Malformed}
use Rattle.lines.specs.Line.{frame_of}
use Rattle.recording.specs.Record.{line_of}
use Rattle.recording.proofs.Recorded.{Sayable, written_read}
use Rattle.recording.proofs.Recorded as recorded
use Rattle.session.specs.Session.{World, frame_step, step_of}
use Rattle.events.specs.Book.{new_book}
use Rattle.events.specs.Event.{whole, found, call_of, cycles_of}
use Rattle.auditing.specs.Line.{is_row}
use Rattle.audited.specs.Sessions.{calls_of, at_reset, left_by, next_event}
use Rattle.audited.specs.Told.{WholeTold}
use Rattle.audited.proofs.Sessions.{audit_found}
use Rattle.audited.proofs.Told.{same_cycles, the_begun, left_since, whole_said, whole_told}

-- the registers are selected; exposure 0010h
abbrev pub before : List Frame
before = Write 0x4000 0x10 ∷ Write 0xA003 0x10 ∷ []

-- the start: 03 to register 0
abbrev pub start : Frame
start = Write 0xA000 0x03

-- it runs 3,000 cycles, is stopped, and stands still; another exposure is written; RAM bank 5, of one bank, is selected and RAM writing enabled;
-- a byte lands beside the area; a read; it is resumed
abbrev pub between : List Frame
between =
    Tick 3000
    ∷ Write 0xA000 0x02
    ∷ Tick 500
    ∷ Write 0xA003 0xFF
    ∷ Write 0x4000 0x05
    ∷ Write 0x0000 0x0A
    ∷ Write 0xB000 0x5A
    ∷ Read 0xA100
    ∷ Write 0x4000 0x10
    ∷ Write 0xA000 0x03
    ∷ []

-- and it runs to its end
abbrev pub last : Frame
last = Tick 40000

-- their lines
abbrev pub line_for : Frame → List ℕ
line_for f = line_of f []

abbrev pub lines : List (List ℕ)
lines = map line_for (before ++ (start ∷ between))

-- ---- their calls

abbrev w₀ : World
w₀ = at_reset ram store image

data Said : List Frame → Type 0 where
  none : Said []
  more : {f : Frame} {fs : List Frame} → Sayable f [] → is_row f ≡ false → Said fs → Said (f ∷ fs)

-- a line that is no image row leaves the image
image_kept : (rom line : List ℕ) (w : World) (f : Frame) → is_row f ≡ false → (frame_step rom line w f).world.image ≡ w.image
unfolding frame_step is_row
image_kept rom line w Reset h = refl
image_kept rom line w (Read a) h = refl
image_kept rom line w (Write a v) h = refl
image_kept rom line w (Tick n) h = refl
image_kept rom line w (Row y) h = not_both refl h
image_kept rom line w Malformed h = refl

calls_said : {fs : List Frame} → Said fs → (w : World) → w.image ≡ image → calls_of [] w (map line_for fs) ≡ map (call_of [] image) fs
unfolding calls_of step_of
calls_said none w e = refl
calls_said (more {f} {fs} s plain rest) w e =
    let r = calls_said rest (step_of [] w (line_for f)).world
    (ap (λ (g : Frame). (frame_step [] (line_for f) w g).world.image) (written_read s) ∙ image_kept [] (line_for f) w f plain ∙ e) in
    (λ i. call_of [] (e i) (written_read s i) ∷ r i)

writes : (a v : ℕ) → a < 65536 → v < 256 → {fs : List Frame} → Said fs → Said (Write a v ∷ fs)
unfolding is_row
writes a v h i rest = more (recorded.write h i) refl rest

ticks : (n : ℕ) → n < 4294967296 → {fs : List Frame} → Said fs → Said (Tick n ∷ fs)
unfolding is_row
ticks n h rest = more (recorded.tick h) refl rest

reads : (a : ℕ) → a < 65536 → {fs : List Frame} → Said fs → Said (Read a ∷ fs)
unfolding is_row
reads a h rest = more (recorded.read h) refl rest

all_said : Said (before ++ (start ∷ between))
all_said =
    writes 0x4000 0x10 (omega arith) (omega arith)
    (writes 0xA003 0x10 (omega arith) (omega arith)
    (writes 0xA000 0x03 (omega arith) (omega arith)
    (ticks 3000 (omega arith)
    (writes 0xA000 0x02 (omega arith) (omega arith)
    (ticks 500 (omega arith)
    (writes 0xA003 0xFF (omega arith) (omega arith)
    (writes 0x4000 0x05 (omega arith) (omega arith)
    (writes 0x0000 0x0A (omega arith) (omega arith)
    (writes 0xB000 0x5A (omega arith) (omega arith)
    (reads 0xA100 (omega arith)
    (writes 0x4000 0x10 (omega arith) (omega arith)
    (writes 0xA000 0x03 (omega arith) (omega arith) none))))))))))))

abbrev first_calls : List Call
first_calls = write image 0x4000 0x10 ∷ write image 0xA003 0x10 ∷ []

abbrev start_call : Call
start_call = write image 0xA000 0x03

abbrev since_calls : List Call
since_calls =
    tick 3000
    ∷ write image 0xA000 0x02
    ∷ tick 500
    ∷ write image 0xA003 0xFF
    ∷ write image 0x4000 0x05
    ∷ write image 0x0000 0x0A
    ∷ write image 0xB000 0x5A
    ∷ read [] 0xA100
    ∷ write image 0x4000 0x10
    ∷ write image 0xA000 0x03
    ∷ []

calls_are : calls_of [] w₀ lines ≡ first_calls ++ (start_call ∷ since_calls)
unfolding call_of
calls_are = calls_said all_said w₀ refl

-- ---- what they come to

record Premises : Type 0 where
  pub over : Whole (told ram store first_calls) start_call since_calls (tick 40000)
  pub untouched : Clear in_area (next (told ram store first_calls) start_call) since_calls
  pub once : starts_told ram store (first_calls ++ (start_call ∷ since_calls)) ≡ 1
  pub total : total_of (registers_at (told ram store first_calls) start_call) ≡ 33214

premises : Premises
unfolding registers_at starts to_registers write_accepted tick_accepted banks_allowed ones ones_in on_cartridge follow next trackAtReset written registered controlled enabling selecting storing beginning running ending ends runs_in total_of exposure_of goes_on is_reset landed in_area to_ram place_of lands tally_told
premises = record {
  over = record { held = record { begins = refl; goes = refl }; over = refl };
  untouched = λ p here. rw (beside p here);
  once = refl;
  total = refl;
}

worked_start : Start ram store (calls_of [] w₀ lines)
worked_start = record {
  before = first_calls;
  image = image;
  address = 0xA000;
  byte = 0x03;
  since = since_calls;
  whole = calls_are;
  begins = sym (starts_seen_lem ram store first_calls start_call) ∙ premises.over.held.begins;
  through = goes_seen ram store first_calls start_call since_calls premises.over.held;
}

worked_left : AreaLeft (world_after worked_start) worked_start.since
unfolding worked_start
worked_left p inside = sym (landed_seen_lem ram store first_calls start_call since_calls p) ∙ premises.untouched p inside

-- ---- what the audit says

abbrev here : World
here = (left_by [] w₀ lines).world

abbrev call : Call
call = call_of [] here.image (frame_of (line_for last))

call_is : call ≡ tick 40000
unfolding call_of
call_is = ap (call_of [] here.image) (written_read (recorded.tick {n = 40000} (omega arith)))

found_here : found here ≡ after (fresh ram store) (calls_of [] w₀ lines)
found_here = audit_found [] w₀ new_book lines

worked_over : end_seen (found here) call ≡ true
unfolding follow
worked_over =
    (λ i. end_seen (found_here i) (call_is i))
    ∙ ap (λ (cs : List Call). end_seen (after (fresh ram store) cs) (tick 40000)) calls_are
    ∙ sym (ends_seen_lem ram store (first_calls ++ (start_call ∷ since_calls)) (tick 40000))
    ∙ premises.over.over

serial_is : here.state.started ≡ 1
serial_is =
    ap (λ (x : Found). x.state.started) (found_here ∙ ap (after (fresh ram store)) calls_are)
    ∙ started_counts ram store (first_calls ++ (start_call ∷ since_calls))
    ∙ ap (λ (n : ℕ). n % 65536) (starts_told_lem ram store (first_calls ++ (start_call ∷ since_calls)) ∙ premises.once)

cycles_are : cycles_of (found here) call ≡ 33214
unfolding worked_start
cycles_are =
    (λ i. cycles_of (found_here i) (call_is i))
    ∙ same_cycles worked_start (tick 40000)
    ∙ cycles ram store first_calls start_call since_calls (tick 40000) premises.over
    ∙ premises.total

-- Worked event: serial 1, 33,214 cycles, whole
pub worked_event : next_event [] w₀ lines (line_for last) ≡ whole 1 33214 (crc_of (plate_of (leaves (found here) call).ram))
worked_event =
    whole_said [] ram store image lines (line_for last) (the_begun [] ram store image lines worked_start) (left_since [] ram store image lines worked_start worked_left) worked_over
    ∙ (λ i. whole (serial_is i) (cycles_are i) (crc_of (plate_of (leaves (found here) call).ram)))

-- Worked whole: so it is its own
pub worked_whole : WholeTold [] w₀ lines (line_for last) 1 33214 (crc_of (plate_of (leaves (found here) call).ram))
worked_whole = whole_told [] ram store image lines (line_for last) ram_bytes 1 33214 _ worked_event
