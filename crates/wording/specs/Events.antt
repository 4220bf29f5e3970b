-- The events that an audit prints: each is one line of keys and values, and begins with the number of the script's line. Assumes nothing.
use Rattle.std.specs.Prelude.{Bool, List, [], ◌∷◌, ◌++◌, ℕ, ◌/◌, ◌%◌}
use Rattle.laws.specs.Pick.{pick}
use Rattle.lines.specs.Hex.{hex_text}
use Rattle.recording.specs.Record.{row_hex}
use Rattle.wording.specs.Words.{decimal}
use Rattle.wording.specs.Keys.{line_word, start_word, image_word, row_word, registers_word, stop_word, resume_word, cycles_word, write_word, inside_word}
use Rattle.wording.specs.Keys.{outside_word, offset_word, byte_word, end_word, plate_word, whole_end, touched_end, first_word, last_word, dropped_word}
use Rattle.wording.specs.Keys.{held_word, changed_word, from_word, to_word, unchanged_word, summary_word, refused_word, captures_word, ended_word}
use Rattle.wording.specs.Keys.{whole_word, touched_word, count_dropped, count_held}

-- LF
abbrev pub line_end : List ℕ
line_end = 0x0A ∷ []

-- the line's number
abbrev pub opening : ℕ → List ℕ
opening n = line_word ++ decimal n

-- a start: its serial, the checksum of the image, the line of the last row lent, and the registers taken
unfoldable pub start_text : ℕ → ℕ → ℕ → ℕ → List ℕ → List ℕ
start_text n serial image row registers =
    opening n ++ (start_word ++ (decimal serial ++ (image_word ++ (hex_text 8 image ++ (row_word ++ (decimal row ++ (registers_word
    ++ (row_hex registers ++ line_end))))))))

-- an event that has a serial and the cycles run so far
abbrev pub mark_text : List ℕ → ℕ → ℕ → ℕ → List ℕ
mark_text word n serial cycles = opening n ++ (word ++ (decimal serial ++ (cycles_word ++ (decimal cycles ++ line_end))))

-- a stop, a resume, a capture that a reset dropped, and one that is still held
unfoldable pub stop_text : ℕ → ℕ → ℕ → List ℕ
stop_text n serial cycles = mark_text stop_word n serial cycles

unfoldable pub resume_text : ℕ → ℕ → ℕ → List ℕ
resume_text n serial cycles = mark_text resume_word n serial cycles

unfoldable pub dropped_text : ℕ → ℕ → ℕ → List ℕ
dropped_text n serial cycles = mark_text dropped_word n serial cycles

unfoldable pub held_text : ℕ → ℕ → ℕ → List ℕ
held_text n serial cycles = mark_text held_word n serial cycles

-- a bus write that landed: inside the picture area or outside, the bank, the offset in it, and the byte
unfoldable pub landed_text : ℕ → ℕ → Bool → ℕ → ℕ → List ℕ
landed_text n serial inside at byte =
    opening n ++ (write_word ++ (decimal serial ++ (pick inside inside_word outside_word ++ (hex_text 1 (at / 8192) ++ (offset_word
    ++ (hex_text 4 (at % 8192) ++ (byte_word ++ (hex_text 2 byte ++ line_end))))))))

-- an end, with the checksum of the plate, up to its verdict
abbrev pub end_text : ℕ → ℕ → ℕ → ℕ → List ℕ → List ℕ
end_text n serial cycles plate verdict =
    opening n ++ (end_word ++ (decimal serial ++ (cycles_word ++ (decimal cycles ++ (plate_word ++ (hex_text 8 plate ++ verdict))))))

-- a plate that is whole
unfoldable pub whole_text : ℕ → ℕ → ℕ → ℕ → List ℕ
whole_text n serial cycles plate = end_text n serial cycles plate (whole_end ++ line_end)

-- one that was touched by so many writes, the first and the last on these lines
unfoldable pub touched_text : ℕ → ℕ → ℕ → ℕ → ℕ → ℕ → ℕ → List ℕ
touched_text n serial cycles plate writes first last =
    end_text n serial cycles plate (touched_end ++ (decimal writes ++ (first_word ++ (decimal first ++ (last_word ++ (decimal last ++ line_end))))))

-- a stretch of RAM that changed: its bank, and its first and last offset
unfoldable pub changed_text : ℕ → ℕ → ℕ → List ℕ
changed_text n from to =
    opening n ++ (changed_word ++ (hex_text 1 (from / 8192) ++ (from_word ++ (hex_text 4 (from % 8192) ++ (to_word ++ (hex_text 4 (to % 8192) ++ line_end))))))

-- there is none
unfoldable pub unchanged_text : ℕ → List ℕ
unchanged_text n = opening n ++ (unchanged_word ++ line_end)

-- the summary: lines that are malformed and refused, captures started, ended, of these whole and touched, dropped, and held
unfoldable pub summary_text : ℕ → ℕ → ℕ → ℕ → ℕ → ℕ → ℕ → ℕ → ℕ → List ℕ
summary_text n malformed refused captures ended whole touched dropped held =
    opening n ++ (summary_word ++ (decimal malformed ++ (refused_word ++ (decimal refused ++ (captures_word ++ (decimal captures ++ (ended_word ++ (decimal ended
    ++ (whole_word ++ (decimal whole ++ (touched_word ++ (decimal touched ++ (count_dropped ++ (decimal dropped ++ (count_held
    ++ (decimal held ++ line_end))))))))))))))))
