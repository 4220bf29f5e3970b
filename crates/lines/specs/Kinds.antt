-- Bus script: the five kinds of line, each by its length, its digits and its row. Assumes nothing.
use Rattle.std.specs.Prelude.{ℕ, Bool, true, false, ◌&&◌, ◌||◌, List, [], ◌∷◌, length, ◌==◌, nat_le, slice_index}
use Rattle.laws.specs.Pick.{pick}
use Rattle.lines.specs.declared.line.Frame.{Frame}
use Rattle.lines.specs.declared.line.Frame.TheVariants.{Reset, Read, Write, Tick, Row, Malformed}
use Rattle.lines.specs.Line.{is_hex, number_at}

-- every byte is an upper-case hexadecimal digit
unfoldable pub all_hex : List ℕ → Bool
all_hex [] = true
all_hex (b ∷ rest) = is_hex b && all_hex rest

-- a line of n digits, of which the first is 0 and the second the kind's
unfoldable pub of_kind : ℕ → ℕ → List ℕ → Bool
of_kind digit n line = length line == n && (all_hex line && (slice_index line 0 == 0x30 && slice_index line 1 == digit))

-- `00` reset
abbrev pub says_reset : List ℕ → Bool
says_reset line = of_kind 0x30 2 line

-- `01` four-digit address
abbrev pub says_read : List ℕ → Bool
says_read line = of_kind 0x31 6 line

-- `02` four-digit address, byte
abbrev pub says_write : List ℕ → Bool
says_write line = of_kind 0x32 8 line

-- `03` eight-digit tick
abbrev pub says_tick : List ℕ → Bool
says_tick line = of_kind 0x33 10 line

-- `04` row (00 to 7F: its first digit is 0 to 7) and 128 bytes of the image
abbrev pub says_row : List ℕ → Bool
says_row line = of_kind 0x34 260 line && nat_le (slice_index line 2) 0x37

-- the frame of a line, by its kind
abbrev pub said_by : List ℕ → Frame
said_by line =
    pick (says_reset line) Reset
    (pick (says_read line) (Read (number_at line 2 4))
    (pick (says_write line) (Write (number_at line 2 4) (number_at line 6 2))
    (pick (says_tick line) (Tick (number_at line 2 8)) (pick (says_row line) (Row (number_at line 2 2)) Malformed))))

-- a line is of one of the five kinds
unfoldable pub is_kind : List ℕ → Bool
is_kind line = says_reset line || (says_read line || (says_write line || (says_tick line || says_row line)))

-- the frame of a line that says none
abbrev pub is_malformed : Frame → Bool
is_malformed Reset = false
is_malformed (Read a) = false
is_malformed (Write a v) = false
is_malformed (Tick n) = false
is_malformed (Row y) = false
is_malformed Malformed = true
