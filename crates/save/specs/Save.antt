-- One save file: what it is, and its writing. Assumes nothing.
use Rattle.std.specs.Prelude.{Bool, not, ◌&&◌, List, [], ◌∷◌, ◌++◌, ℕ, ◌+◌, ◌/◌, length, drop}
use Rattle.crc.specs.Crc.{crc_of}
use Rattle.controller.specs.declared.Refusal.TheVariants.{State}
use Rattle.controller.specs.State.{can_exist}
use Rattle.controller.specs.Table.{Row, row, no_ram, no_frame, no_room, lowest, judged}
use Rattle.layout.specs.Layout.{low_first, is_record, decoded}
use Rattle.shades.specs.Shades.{Exported, exported}

-- the magic: GXSAVE
unfoldable pub magic : List ℕ
magic = 0x47 ∷ 0x58 ∷ 0x53 ∷ 0x41 ∷ 0x56 ∷ 0x45 ∷ []

-- all before the checksum: 0..6 the magic, 6 the RAM's banks, 7..128 the state record, from 128 on the RAM, and then the frame store
unfoldable pub body_of : List ℕ → List ℕ → List ℕ → List ℕ
body_of s ram store = magic ++ (length ram / 8192 ∷ (s ++ (ram ++ store)))

-- the file: it ends with the CRC-32 of all before it, lowest byte first
unfoldable pub save_of : List ℕ → List ℕ → List ℕ → List ℕ
save_of s ram store = body_of s ram store ++ low_first (crc_of (body_of s ram store))

-- its length, by the RAM's
abbrev pub save_length : ℕ → ℕ
save_length ram = 16516 + ram

-- state bytes: a record, and one that can exist
unfoldable pub is_state : List ℕ → Bool
is_state s = is_record s && can_exist (decoded s)

-- 1: they are not
abbrev pub no_state_in : List ℕ → Row
no_state_in s = row State (not (is_state s))

-- Refusals: 1, 3, 4, then 7 for a shorter buffer
unfoldable pub save_rows : List ℕ → List ℕ → List ℕ → List ℕ → List Row
save_rows s ram store out =
    no_state_in s ∷ no_ram (length ram) ∷ no_frame (length store) ∷ no_room (save_length (length ram)) (length out) ∷ []

-- Writing fills a lent buffer, keeps later bytes, and returns the length. Refused, nothing is written
unfoldable pub save_means : List ℕ → List ℕ → List ℕ → List ℕ → Exported
save_means s ram store out =
    judged (lowest (save_rows s ram store out)) (λ n. exported n 0 out)
    (exported 0 (save_length (length ram)) (save_of s ram store ++ drop (save_length (length ram)) out))
