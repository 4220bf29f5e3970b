-- Bus script: a frame written as a line into a lent buffer. Assumes nothing.
use Rattle.std.specs.Prelude.{Bool, true, false, not, ◌&&◌, List, [], ◌∷◌, ◌++◌, ℕ, zero, suc, ◌+◌, eqb, leb, ltb, length}
use Rattle.controller.specs.declared.Refusal.TheVariants as refusals
use Rattle.controller.specs.Outcome.{number_of}
use Rattle.controller.specs.Table.{Row, row, lowest, judged}
use Rattle.lines.specs.declared.line.Frame.{Frame}
use Rattle.lines.specs.declared.line.Frame.TheVariants.{Reset, Read, Write, Tick, Row as RowFrame, Malformed}
use Rattle.std.specs.declared.result.Result.{Result}
use Rattle.controller.specs.declared.Refusal.{Refusal}
use Rattle.std.specs.Prelude.{Ok, Err}
use Rattle.lines.specs.Hex.{hex_text, placed}
use Rattle.lines.specs.Line.{number_at}

-- `01` four-digit address
abbrev pub read_line : ℕ → List ℕ
read_line a = hex_text 2 1 ++ hex_text 4 a

-- `02` four-digit address, byte
abbrev pub write_line : ℕ → ℕ → List ℕ
write_line a v = hex_text 2 2 ++ (hex_text 4 a ++ hex_text 2 v)

-- `03` eight-digit tick
abbrev pub tick_line : ℕ → List ℕ
tick_line n = hex_text 2 3 ++ hex_text 8 n

-- bytes of the image, two digits each
unfoldable pub row_hex : List ℕ → List ℕ
row_hex [] = []
row_hex (b ∷ bytes) = hex_text 2 b ++ row_hex bytes

-- `04` row and 128 bytes of the image
unfoldable pub row_line : ℕ → List ℕ → List ℕ
row_line y bytes = hex_text 2 4 ++ (hex_text 2 y ++ row_hex bytes)

-- a frame's line, without its LF; the bytes are an image row's, and no other frame has any
unfoldable pub line_of : Frame → List ℕ → List ℕ
line_of Reset bytes = hex_text 2 0
line_of (Read a) bytes = read_line a
line_of (Write a v) bytes = write_line a v
line_of (Tick n) bytes = tick_line n
line_of (RowFrame y) bytes = row_line y bytes
line_of Malformed bytes = []

-- a row that has a line: 00 to 7F, with 128 bytes
unfoldable pub row_allowed : ℕ → ℕ → Bool
row_allowed y n = leb y 0x7F && eqb n 128

-- no line says it: an image row above 7F or one that is not 128 bytes, and what is no frame
unfoldable pub cant_say : Frame → List ℕ → Bool
cant_say (RowFrame y) bytes = not (row_allowed y (length bytes))
cant_say Malformed bytes = true
cant_say Reset bytes = false
cant_say (Read a) bytes = false
cant_say (Write a v) bytes = false
cant_say (Tick n) bytes = false

-- a line with its LF
abbrev pub ended : List ℕ → List ℕ
ended line = line ++ (0x0A ∷ [])

-- 6: no line says it
abbrev pub no_line : Bool → Row
no_line cant = row refusals.Line cant

-- 7: the buffer is shorter than the line with its LF
abbrev pub too_short : ℕ → ℕ → Row
too_short room n = row refusals.Room (ltb room n)

unfoldable pub record_rows : Bool → List ℕ → List ℕ → List Row
record_rows cant line out = no_line cant ∷ too_short (length out) (length (ended line)) ∷ []

-- the outcome: refusal number (0: none), the length with the LF, and the buffer's bytes afterwards
pub record Recording : Type 0 where
  pub number : ℕ
  pub length : ℕ
  pub out : List ℕ

abbrev pub recording : ℕ → ℕ → List ℕ → Recording
recording number n out = record { number = number; length = n; out = out }

-- a refusal returns length 0 and writes nothing
abbrev pub unrecorded : List ℕ → ℕ → Recording
unrecorded out number = recording number 0 out

-- the writer fills the buffer, keeps later bytes, and returns the length with the LF
abbrev pub filled : List ℕ → List ℕ → Recording
filled line out = recording 0 (length (ended line)) (placed out 0 (ended line))

unfoldable pub line_means : Bool → List ℕ → List ℕ → Recording
line_means cant line out = judged (lowest (record_rows cant line out)) (unrecorded out) (filled line out)

unfoldable pub record_means : Frame → List ℕ → List ℕ → Recording
record_means f bytes out = line_means (cant_say f bytes) (line_of f bytes) out

-- the number and the length of each case of an answer
abbrev pub recorded : Result ℕ Refusal → List ℕ → Recording
recorded (Ok n) out = recording 0 n out
recorded (Err why) out = recording (number_of why) 0 out

-- n bytes of a line from a place on, two digits each, as the reader takes them
unfoldable pub bytes_at : List ℕ → ℕ → ℕ → List ℕ
bytes_at line at zero = []
bytes_at line at (suc n) = number_at line at 2 ∷ bytes_at line (at + 2) n
