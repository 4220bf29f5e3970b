-- Bus script: one frame a line, in upper-case hexadecimal. Assumes nothing.
use Rattle.std.specs.Prelude.{ℕ, zero, suc, ◌+◌, ◌-◌, ◌*◌, Bool, true, ◌&&◌, ◌||◌, ◌≡◌, Option, Some, None, List, length, ◌==◌, nat_le, slice_index}
use Rattle.laws.specs.Pick.{pick}
use Rattle.lines.specs.declared.line.Digit.{Digit}
use Rattle.lines.specs.declared.line.Digit.TheVariants as digits
use Rattle.lines.specs.declared.line.Frame.{Frame}
use Rattle.lines.specs.declared.line.Frame.TheVariants.{Reset, Read, Write, Tick, Row, Malformed}

-- a byte is an upper-case hexadecimal digit: 0 to 9 are 30h to 39h, A to F are 41h to 46h (a lower-case letter or CR is none)
abbrev pub is_hex : ℕ → Bool
is_hex b = (nat_le 0x30 b && nat_le b 0x39) || (nat_le 0x41 b && nat_le b 0x46)

-- what a digit is worth
abbrev pub worth : ℕ → ℕ
worth b = pick (nat_le b 0x39) (b - 0x30) (b - 0x41 + 10)

-- a byte taken as a digit
unfoldable pub digit_of : ℕ → Digit
digit_of b = pick (is_hex b) (digits.Value (worth b)) digits.NotHex

-- n bytes of a line, from `at` on, are all digits
unfoldable pub hex_part : List ℕ → ℕ → ℕ → Bool
hex_part line at zero = true
hex_part line at (suc n) = hex_part line at n && is_hex (slice_index line (at + n))

-- the number that they spell
unfoldable pub number_at : List ℕ → ℕ → ℕ → ℕ
number_at line at zero = 0
number_at line at (suc n) = number_at line at n * 16 + worth (slice_index line (at + n))

unfoldable pub number_of : List ℕ → ℕ → ℕ → Option ℕ
number_of line at n = pick (hex_part line at n) (Some (number_at line at n)) None

-- a line begins with the two digits of a kind
abbrev pub Begins : List ℕ → ℕ → Type 0
Begins line kind = (hex_part line 0 2 ≡ true) × (number_at line 0 2 ≡ kind)

-- a line of this kind and length: wrong length and unknown kind are 6
abbrev pub is_line : List ℕ → ℕ → ℕ → Bool
is_line line kind n = number_at line 0 2 == kind && length line == n

-- `00` reset; `01` four-digit address; `02` four-digit address, byte; `03` eight-digit tick; `04` row (00 to 7F) and 128 bytes of the image
unfoldable pub spelled : List ℕ → Frame
spelled line =
    pick (is_line line 0 2) Reset
    (pick (is_line line 1 6) (Read (number_at line 2 4))
    (pick (is_line line 2 8) (Write (number_at line 2 4) (number_at line 6 2))
    (pick (is_line line 3 10) (Tick (number_at line 2 8))
    (pick (is_line line 4 260 && nat_le (number_at line 2 2) 0x7F) (Row (number_at line 2 2)) Malformed))))

-- Anything that is not a hex digit ends the reading with 6
unfoldable pub frame_of : List ℕ → Frame
frame_of line = pick (hex_part line 0 (length line)) (spelled line) Malformed
