-- Scripts with a second copy on the end: which lines are kept. Assumes nothing.
use Rattle.std.specs.Prelude.{Bool, true, false, ◌&&◌, List, [], ◌∷◌, ◌++◌, ℕ, zero, suc, ◌-◌, ◌/◌, eqb, length, take, drop}
use Rattle.laws.specs.Pick.{pick}
use Rattle.laws.specs.Iter.{iter}
use Rattle.lines.specs.declared.line.Frame.{Frame}
use Rattle.lines.specs.declared.line.Frame.TheVariants.{Reset, Read, Write, Tick, Row, Malformed}
use Rattle.lines.specs.Line.{frame_of}
use Rattle.recording.specs.Record.{ended}

-- a line is accepted where it says a frame, and malformed where it says none
abbrev pub is_frame : Frame → Bool
is_frame Reset = true
is_frame (Read a) = true
is_frame (Write a v) = true
is_frame (Tick n) = true
is_frame (Row y) = true
is_frame Malformed = false

unfoldable pub accepted : List ℕ → Bool
accepted line = is_frame (frame_of line)

-- It keeps accepted lines in order, drops malformed ones
unfoldable pub accepted_of : List (List ℕ) → List (List ℕ)
accepted_of [] = []
accepted_of (line ∷ lines) = pick (accepted line) (line ∷ accepted_of lines) (accepted_of lines)

-- the first line says reset
abbrev pub is_reset : Frame → Bool
is_reset Reset = true
is_reset (Read a) = false
is_reset (Write a v) = false
is_reset (Tick n) = false
is_reset (Row y) = false
is_reset Malformed = false

unfoldable pub starts_reset : List (List ℕ) → Bool
starts_reset [] = false
starts_reset (line ∷ lines) = is_reset (frame_of line)

-- two lists are the same, element by element
unfoldable pub same_by : {A : Type 0} → (A → A → Bool) → List A → List A → Bool
same_by same [] [] = true
same_by same [] (y ∷ ys) = false
same_by same (x ∷ xs) [] = false
same_by same (x ∷ xs) (y ∷ ys) = same x y && same_by same xs ys

-- lines are compared as their bytes
abbrev pub same_line : List ℕ → List ℕ → Bool
same_line a b = same_by eqb a b

abbrev pub same_lines : List (List ℕ) → List (List ℕ) → Bool
same_lines a b = same_by same_line a b

-- the earlier half of some lines, and the later
abbrev pub earlier : List (List ℕ) → List (List ℕ)
earlier lines = take (length lines / 2) lines

abbrev pub later : List (List ℕ) → List (List ℕ)
later lines = drop (length lines / 2) lines

-- the lines are some sequence followed by itself, both halves starting with reset
unfoldable pub doubled : List (List ℕ) → Bool
doubled lines = starts_reset (earlier lines) && (starts_reset (later lines) && same_lines (earlier lines) (later lines))

-- one half is kept; the later half is the one dropped
unfoldable pub halved : List (List ℕ) → List (List ℕ)
halved lines = pick (doubled lines) (earlier lines) lines

-- the tool repeats until none is left: as often as there are lines is often enough
unfoldable pub unrepeated : List (List ℕ) → List (List ℕ)
unrepeated lines = iter halved (length lines) lines

-- what is kept of some lines
unfoldable pub salvaged : List (List ℕ) → List (List ℕ)
salvaged lines = unrepeated (accepted_of lines)

-- the text of lines, each with its LF: a last line without LF gains one
unfoldable pub text_of : List (List ℕ) → List ℕ
text_of [] = []
text_of (line ∷ lines) = ended line ++ text_of lines

-- an accepted line, with so many still to be kept: 0 kept, 2 accepted but dropped as repeated
abbrev pub kept_or : ℕ → ℕ
kept_or zero = 2
kept_or (suc n) = 0

-- a line, accepted or not: 1 malformed
unfoldable pub mark_of : Bool → ℕ → ℕ
mark_of good n = pick good (kept_or n) 1

-- how many are still to be kept after it
unfoldable pub left_after : Bool → ℕ → ℕ
left_after good n = pick good (n - 1) n

-- one byte for each line, in order, where the first n accepted lines are kept
unfoldable pub marks : ℕ → List (List ℕ) → List ℕ
marks n [] = []
marks n (line ∷ lines) = mark_of (accepted line) n ∷ marks (left_after (accepted line) n) lines

-- the report of some lines
unfoldable pub report_of : List (List ℕ) → List ℕ
report_of lines = marks (length (salvaged lines)) lines
