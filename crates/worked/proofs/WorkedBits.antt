-- A worked history that meets `touched` in each way: with a stop and a resume, a bit from a bus write after a pixel, from a pixel after a bus write, from a placing, and untouched. Assumes nothing.
use mathlib.Core.Path.{◌≡◌, refl, sym, ap, ◌∙◌}
use mathlib.Core.List.{List, [], ◌∷◌, ◌++◌}
use Prim.Native.Nat.{ℕ, ◌+◌, ◌/◌, ◌%◌, ◌<◌}
use native.Mathlib.Omega.{arith}
use lib.Count.{ones, ones_in}
use lib.ListN.{length, get_or, drop, length-replicate, get_or-replicate}
use lib.Seq.{get_or-take, get_or-drop}
use Rattle.laws.specs.Bits.{bit_of}
use Rattle.laws.proofs.Packed.{listed_at}
use Rattle.lighting.specs.Taken.{exposure_of}
use Rattle.timing.specs.Lent.{banks_allowed}
use Rattle.timing.specs.Timing.{total_of, reading_from, first_row}
use Rattle.tiles.specs.Picture.{picture_shade}
use Rattle.controller.specs.Table.{on_cartridge}
use Rattle.placing.specs.Placing.{pixels_of, placed_byte, placed_area}
use Rattle.placing.proofs.RoundTrip.{out_in, plate_is}
use Rattle.history.specs.History.{Call, write, tick, place, fresh, after}
use Rattle.history.specs.Seen.{in_area, byte_in}
use Rattle.history.specs.Bits.{cycle_of, bit_at, shade_sent}
use Rattle.history.proofs.Track.{at_reset, write_accepted, tick_accepted, place_accepted, runs_in, ends, to_ram, place_of, lands, enabling, selecting, storing, beginning, running, ending, controlled, registered, written, next, lit_by}
use Rattle.history.proofs.Since.{sends_told, sent_told, last_told}
use Rattle.history.proofs.Touched.{touched_told}
use Rattle.worked.proofs.Worked.{ram, store, image, other, white, file, set_up_lem, start, regs, all_bytes_lem}

-- the registers are selected and set; the file of a white plate is placed; a start, 3,000 cycles, a stop, and 500 cycles that stand still
abbrev pub stopped : List Call
stopped = set_up_lem ++ (place file ∷ start ∷ tick 3000 ∷ write other 0xA000 0x02 ∷ tick 500 ∷ [])

-- another exposure is written; RAM writing is enabled, and 5A lands at 0100h, whose pixels are passed, and at 0104h, whose pixels are not
abbrev pub edited : List Call
edited =
    stopped
    ++ (write other 0xA003 0xFF
    ∷ write other 0x4000 0x00
    ∷ write other 0x0000 0x0A
    ∷ write other 0xA100 0x5A
    ∷ write other 0xA104 0x5A
    ∷ [])

-- it is resumed, and runs 1,000 cycles more
abbrev pub calls : List Call
calls = edited ++ (write other 0x4000 0x10 ∷ write other 0xA000 0x03 ∷ tick 1000 ∷ [])

-- the last thing sent to a bit, from reset on
abbrev last_sent_lem : List Call → ℕ → ℕ → ℕ
last_sent_lem cs p b = last_told p b (at_reset (length ram) (length store)) cs (bit_of (get_or ram p 0) b)

-- what was sent, each computed: bit 3 of 0100h and 0104h is of column 4, in rows 0 and 2; bit 4 of 01EAh is of column 115 in row 5, the
-- last pixel passed, and bit 3 of column 116
pub record Sent : Type 0 where
  pub at_the_stop : last_sent_lem stopped 0x100 3 ≡ picture_shade (lit_by image regs) regs 4 0 % 2
  pub then_write : last_sent_lem calls 0x100 3 ≡ 1
  pub write_first : last_sent_lem edited 0x104 3 ≡ 1
  pub then_low : last_sent_lem calls 0x104 3 ≡ picture_shade (lit_by image regs) regs 4 2 % 2
  pub then_high : last_sent_lem calls 0x105 3 ≡ picture_shade (lit_by image regs) regs 4 2 / 2
  pub passed : last_sent_lem calls 0x1EA 4 ≡ picture_shade (lit_by image regs) regs 115 5 % 2
  pub not_passed : last_sent_lem calls 0x1EA 3 ≡ bit_of (placed_byte (pixels_of file) 0xEA) 3
  pub not_yet : last_sent_lem set_up_lem 0x1EA 3 ≡ 1
  pub never : last_sent_lem calls 0x1000 3 ≡ 1

sent : Sent
unfolding last_told sent_told sends_told shade_sent bit_at cycle_of reading_from first_row exposure_of write_accepted tick_accepted banks_allowed ones ones_in on_cartridge next at_reset written registered controlled enabling selecting storing beginning running ending ends runs_in total_of in_area to_ram place_of lands byte_in place_accepted
sent = record {
  at_the_stop = refl;
  then_write = refl;
  write_first = refl;
  then_low = refl;
  then_high = refl;
  passed = refl;
  not_passed = rw (plate_is white);
  not_yet = refl;
  never = rw (plate_is white);
}

-- the bytes placed are 00
white_byte : (i : ℕ) → i < 3584 → placed_byte (pixels_of file) i ≡ 0
unfolding placed_area
white_byte i l =
    sym (listed_at (placed_byte (pixels_of file)) 3584 i l)
    ∙ ap (λ (bytes : List ℕ). get_or bytes i 0) (out_in white (omega (arith, length-replicate {A = ℕ} 8192 0x00)) (all_bytes_lem 0x00 (omega arith)))
    ∙ get_or-take 3584 (drop 0x100 white) i 0 l
    ∙ get_or-drop 0x100 white i 0
    ∙ get_or-replicate {A = ℕ} 8192 (0x100 + i) 0x00 0 (omega arith)

-- bit b of the byte at place p, after these calls
abbrev bit : List Call → ℕ → ℕ → ℕ
bit cs p b = bit_of (get_or (after (fresh ram store) cs).ram p 0) b

-- Worked bits: a bit from a bus write after a pixel, from a pixel of the capture's own image and registers after a bus write, its high bit as
-- well; in one byte a bit from a pixel, and its neighbour from the placing, which until then held what it held at first; and one untouched to
-- the end
pub record Ways : Type 0 where
  pub pixel_then_write : (bit stopped 0x100 3 ≡ picture_shade (lit_by image regs) regs 4 0 % 2) × (bit calls 0x100 3 ≡ 1)
  pub write_then_pixel : (bit edited 0x104 3 ≡ 1) × (bit calls 0x104 3 ≡ picture_shade (lit_by image regs) regs 4 2 % 2)
  pub high_bit : bit calls 0x105 3 ≡ picture_shade (lit_by image regs) regs 4 2 / 2
  pub neighbours : (bit calls 0x1EA 4 ≡ picture_shade (lit_by image regs) regs 115 5 % 2) × (bit calls 0x1EA 3 ≡ 0)
  pub untouched : (bit set_up_lem 0x1EA 3 ≡ 1) × (bit calls 0x1000 3 ≡ 1)

pub worked_bits : Ways
worked_bits = record {
  pixel_then_write = (by stopped 0x100 ∙ sent.at_the_stop, by calls 0x100 ∙ sent.then_write);
  write_then_pixel = (by edited 0x104 ∙ sent.write_first, by calls 0x104 ∙ sent.then_low);
  high_bit = by calls 0x105 ∙ sent.then_high;
  neighbours = (touched_told ram store calls 0x1EA 4 (λ _. omega arith) ∙ sent.passed, by calls 0x1EA ∙ sent.not_passed ∙ ap (λ (v : ℕ). bit_of v 3) (white_byte 0xEA (omega arith)));
  untouched = (by set_up_lem 0x1EA ∙ sent.not_yet, by calls 0x1000 ∙ sent.never);
}
  where
    by : (cs : List Call) (p : ℕ) → bit cs p 3 ≡ last_sent_lem cs p 3
    by cs p = touched_told ram store cs p 3 (λ _. omega arith)
