-- The table of each exported function: its rows by their numbers, and what a refusal answers and leaves. Assumes nothing.
use Rattle.std.specs.Prelude.{Bool, not, ◌&&◌, ◌||◌, List, [], ◌∷◌, ℕ, eqb, ltb, length}
use Rattle.controller.specs.declared.Refusal.TheVariants.{State, Room, Script}
use Rattle.controller.specs.State.{cant_exist}
use Rattle.controller.specs.Table.{Row, row, no_rom, no_ram, no_frame, no_place, no_room, some_held}
use Rattle.desk.specs.Choice.{no_choice}
use Rattle.placing.specs.Placing.{no_plate}
use Rattle.readings.specs.Readings.{not_held}
use Rattle.script.specs.Text.{lines_of}
use Rattle.salvaging.specs.Salvage.{cleaned}
use Rattle.layout.specs.Layout.{is_record, decoded}
use Rattle.answers.specs.Packed.{packed, number_in}
use Rattle.answers.specs.Called.{Called, called, Filled, filled}
use Rattle.recorder.specs.Recorder.{Reported, reported}
use Rattle.ledger.specs.Audits.{Auditing, auditing, Noting, noting}

-- the number in an answer
abbrev pub in_called : Called → ℕ
in_called b = number_in b.answer

abbrev pub in_filled : Filled → ℕ
in_filled b = number_in b.answer

abbrev pub in_reported : Reported → ℕ
in_reported b = number_in b.answer

abbrev pub in_auditing : Auditing → ℕ
in_auditing b = number_in b.answer

abbrev pub in_noting : Noting → ℕ
in_noting b = number_in b.answer

-- refused by n, a call answers the value 0 and leaves the state bytes, the RAM and the frame store that it was lent
abbrev pub leaves : List ℕ → List ℕ → List ℕ → ℕ → Called
leaves s ram store n = called (packed n 0) s ram store

-- one that fills a buffer leaves the buffer
abbrev pub leaves_buffer : List ℕ → ℕ → Filled
leaves_buffer out n = filled (packed n 0) out

-- a salvage both of its buffers
abbrev pub leaves_both : List ℕ → List ℕ → ℕ → Reported
leaves_both text report n = reported (packed n 0) text report

-- an audit the session, the book, and the buffers of a line and of the events
abbrev pub leaves_audit : List ℕ → List ℕ → List ℕ → List ℕ → List ℕ → List ℕ → List ℕ → ℕ → Auditing
leaves_audit s ram store image book line out n = auditing (packed n 0) s ram store image book line out

-- one that looks for changes or sums up, the book and the buffer for the events
abbrev pub leaves_noted : List ℕ → List ℕ → ℕ → Noting
leaves_noted book out n = noting (packed n 0) book out

-- 1: the bytes are no record, or that of a state that can't exist
abbrev pub bad_state : List ℕ → Row
bad_state s = row State (not (is_record s) || cant_exist (decoded s))

-- a reset is lent the bytes that it writes, and looks at their length alone
unfoldable pub reset_table : List ℕ → List Row
reset_table s = row State (not (eqb (length s) 121)) ∷ []

unfoldable pub read_table : List ℕ → List ℕ → List ℕ → ℕ → List Row
read_table s rom ram a = bad_state s ∷ no_rom (length rom) ∷ no_ram (length ram) ∷ no_place a ∷ []

unfoldable pub write_table : List ℕ → List ℕ → List ℕ → List ℕ → ℕ → List Row
write_table s ram store image a =
    bad_state s ∷ no_ram (length ram) ∷ no_frame (length store) ∷ no_frame (length image) ∷ no_place a ∷ []

unfoldable pub tick_table : List ℕ → List ℕ → List ℕ → List Row
tick_table s ram store = bad_state s ∷ no_ram (length ram) ∷ no_frame (length store) ∷ []

unfoldable pub inspect_table : List ℕ → List Row
inspect_table s = bad_state s ∷ []

unfoldable pub choose_table : List ℕ → ℕ → ℕ → List Row
choose_table s light level = bad_state s ∷ no_choice light level ∷ []

unfoldable pub place_table : List ℕ → List ℕ → List ℕ → List Row
place_table s ram file = bad_state s ∷ no_ram (length ram) ∷ no_plate file ∷ some_held (decoded s) ∷ []

unfoldable pub readings_table : List ℕ → List ℕ → List ℕ → List Row
readings_table s store out = bad_state s ∷ no_frame (length store) ∷ no_room 14351 (length out) ∷ not_held (decoded s) ∷ []

-- a script over 32,768 bytes, which goes before a buffer that is too short
abbrev pub over : List ℕ → Bool
over script = ltb 32768 (length script)

-- 7: a script that is not over the size, and a buffer shorter than what is to be written
abbrev pub short_for : List ℕ → ℕ → ℕ → Row
short_for script bytes room = row Room (not (over script) && ltb room bytes)

-- by their numbers: 7 for the text or the report, 12 for the script
unfoldable pub salvage_table : List ℕ → List ℕ → List ℕ → List Row
salvage_table script text report =
    short_for script (length (cleaned script)) (length text) ∷ short_for script (length (lines_of script)) (length report)
    ∷ row Script (over script) ∷ []
