-- Aside: devices of contracts between functions. Nothing here need be believed: every use of it is tied by a proof to the definitions beside it.
-- What the functions promise of a text that they put into a buffer. Assumes nothing.
use Rattle.std.specs.Prelude.{◌≡◌, List, [], ◌∷◌, ◌++◌, ℕ, zero, suc, ◌+◌, ◌/◌, ◌%◌, ◌≤◌, ltb, length}
use Rattle.laws.specs.Pick.{pick}
use Rattle.lines.specs.Hex.{hex_text, placed}
use Rattle.recording.specs.Record.{row_hex}
use Rattle.wording.specs.Words.{decimal}
use Rattle.wording.specs.Keys.{image_word, row_word, registers_word, cycles_word, end_word, plate_word, ended_word, whole_word, touched_word}
use Rattle.wording.specs.Keys.{count_dropped, count_held}
use Rattle.wording.specs.Events.{line_end, opening}

-- a buffer with words put at a place, of so many bytes at most; and the place after them
pub record Put (out : List ℕ) (at : ℕ) (words : List ℕ) (most : ℕ) (out' : List ℕ) (at' : ℕ) : Type 0 where
  pub text : out' ≡ placed out at words
  pub end : at' ≡ at + length words
  pub few : at' ≤ at + most

-- how many decimal digits a number has, of n at most
unfoldable pub count_in : ℕ → ℕ → ℕ
count_in zero v = 0
count_in (suc n) v = pick (ltb v 10) 1 (count_in n (v / 10) + 1)

-- so many decimal digits of a number
unfoldable pub digits_in : ℕ → ℕ → List ℕ
digits_in zero v = []
digits_in (suc n) v = digits_in n (v / 10) ++ ((0x30 + v % 10) ∷ [])

-- an event up to its serial
abbrev pub begun : List ℕ → ℕ → ℕ → List ℕ
begun word n serial = opening n ++ (word ++ decimal serial)

-- what a start takes, from the checksum of the image on
abbrev pub taken_text : ℕ → ℕ → List ℕ → List ℕ
taken_text image row registers = image_word ++ (hex_text 8 image ++ (row_word ++ (decimal row ++ (registers_word ++ (row_hex registers ++ line_end)))))

-- an end up to its verdict
abbrev pub end_begun : ℕ → ℕ → ℕ → ℕ → List ℕ
end_begun n serial cycles plate = opening n ++ (end_word ++ (decimal serial ++ (cycles_word ++ (decimal cycles ++ (plate_word ++ hex_text 8 plate)))))

-- a summary's captures from those that ended on
abbrev pub ends_text : ℕ → ℕ → ℕ → ℕ → ℕ → List ℕ
ends_text ended whole touched dropped held =
    ended_word ++ (decimal ended ++ (whole_word ++ (decimal whole ++ (touched_word ++ (decimal touched ++ (count_dropped
    ++ (decimal dropped ++ (count_held ++ (decimal held ++ line_end)))))))))
