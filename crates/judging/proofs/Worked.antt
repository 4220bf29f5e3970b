-- Worked judgings that meet all premises of `whole`, `two_frames` and `changed_row`, so that nobody doubts that they can be met. Assumes nothing.
use mathlib.Core.Path.{◌≡◌, refl, ap}
use mathlib.Core.Bool.{true}
use mathlib.Core.List.{List}
use Prim.Native.Nat.{ℕ, ◌+◌, ◌<◌, ◌≤◌}
use native.Mathlib.Omega.{arith}
use lib.ListN.{length, get_or, set, replicate, length-replicate}
use Rattle.timing.specs.Lent.{frame_allowed}
use Rattle.judging.specs.Judging.{afresh_of, judge_means}
use Rattle.judging.proofs.Whose.{afresh_length, whole, two_frames, parted_of, parted_is, changed_row, other_rows}

-- an image without light and one of the most light, registers of 0, and a buffer
abbrev dark : List ℕ
dark = replicate 16384 0

abbrev bright : List ℕ
bright = replicate 16384 255

abbrev zeros : List ℕ
zeros = replicate 54 0

abbrev buffer : List ℕ
buffer = replicate 112 7

frame_fits : (v : ℕ) → frame_allowed (length (replicate 16384 v)) ≡ true
frame_fits v = ap frame_allowed (length-replicate 16384 v)

buffer_fits : 112 ≤ length buffer
buffer_fits = omega (arith, length-replicate {A = ℕ} 112 7)

-- a plate of the dark image alone has all its rows
pub worked_whole : (judge_means (afresh_of dark zeros) dark zeros buffer).equal ≡ 112
worked_whole = (whole (afresh_of dark zeros) dark zeros buffer (afresh_length dark zeros) (frame_fits 0) buffer_fits).1 refl

-- one of both has 40 of one and 72 of the other
pub worked_two : (y : ℕ) → y < 112
    → (y < 40 → get_or (judge_means (parted_of (afresh_of dark zeros) (afresh_of bright zeros) 40) dark zeros buffer).rows y 0 ≡ 1)
    × (40 ≤ y → get_or (judge_means (parted_of (afresh_of dark zeros) (afresh_of bright zeros) 40) bright zeros buffer).rows y 0 ≡ 1)
worked_two =
    two_frames (parted_of (afresh_of dark zeros) (afresh_of bright zeros) 40) dark zeros bright zeros buffer (frame_fits 0) (frame_fits 255) buffer_fits 40
    (parted_is (afresh_of dark zeros) (afresh_of bright zeros) 40 (omega arith))

-- one whose first byte is another has not its first row, and has its second
abbrev other : ℕ
other = get_or (afresh_of dark zeros) 0 0 + 1

pub worked_changed : (get_or (judge_means (set (afresh_of dark zeros) 0 other) dark zeros buffer).rows 0 0 ≡ 0) × (get_or (judge_means (set (afresh_of dark zeros) 0 other) dark zeros buffer).rows 1 0 ≡ 1)
worked_changed = (
  changed_row dark zeros buffer (frame_fits 0) buffer_fits 0 other (omega arith) (λ e. omega arith),
  other_rows dark zeros buffer (frame_fits 0) buffer_fits 0 other (omega arith) (λ e. omega arith) 1 (omega arith) (λ e. omega arith),
)
