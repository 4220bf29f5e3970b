-- One save file: which files are saves, and their reading. Assumes nothing.
use Rattle.std.specs.Prelude.{Bool, not, ◌&&◌, List, [], ◌∷◌, ℕ, ◌+◌, ◌*◌, eqb, length, get_or, take, drop}
use Rattle.crc.specs.Crc.{crc_of}
use Rattle.timing.specs.Lent.{ram_allowed}
use Rattle.controller.specs.declared.Refusal.TheVariants.{State, Ram, File}
use Rattle.controller.specs.Table.{Row, row, no_ram, no_frame, lowest, judged}
use Rattle.layout.specs.Layout.{four_at}
use Rattle.placing.specs.Placing.{each}
use Rattle.save.specs.Save.{magic, save_length, is_state}

-- the RAM's length, by the number of banks at offset 6
abbrev pub ram_length_in : List ℕ → ℕ
ram_length_in file = 8192 * get_or file 6 0

-- the three in a file, each at its place
abbrev pub state_in : List ℕ → List ℕ
state_in file = take 121 (drop 7 file)

abbrev pub ram_in : List ℕ → List ℕ
ram_in file = take (ram_length_in file) (drop 128 file)

abbrev pub store_in : List ℕ → List ℕ
store_in file = take 16384 (drop (128 + ram_length_in file) file)

-- all before the checksum, and its place
abbrev pub body_length_in : List ℕ → ℕ
body_length_in file = 16512 + ram_length_in file

abbrev pub body_in : List ℕ → List ℕ
body_in file = take (body_length_in file) file

-- as long as the banks at offset 6 say, which are allowed
unfoldable pub is_sized : List ℕ → Bool
is_sized file = ram_allowed (ram_length_in file) && eqb (length file) (save_length (ram_length_in file))

-- it begins with the magic
unfoldable pub has_magic : List ℕ → Bool
has_magic file = each (λ k. eqb (get_or file k 0) (get_or magic k 0)) 6

-- the number at its end is the CRC-32 of all before it
unfoldable pub is_whole : List ℕ → Bool
is_whole file = eqb (four_at file (body_length_in file)) (crc_of (body_in file))

-- a save: of its size, with the magic, a state that can exist, and the checksum
unfoldable pub is_save : List ℕ → Bool
is_save file = is_sized file && (has_magic file && (is_state (state_in file) && is_whole file))

-- 1: the state bytes lent are not as many as a record's
abbrev pub no_bytes : List ℕ → Row
no_bytes s = row State (not (eqb (length s) 121))

-- 3: the RAM lent is of another size than the file's
abbrev pub other_ram : List ℕ → ℕ → Row
other_ram file ram = row Ram (is_save file && not (eqb ram (ram_length_in file)))

-- 8: the file is not exactly one that writing makes
abbrev pub no_save : List ℕ → Row
no_save file = row File (not (is_save file))

-- Refusals: 1, 3 and 4 for what is lent, then 8
unfoldable pub restore_rows : List ℕ → List ℕ → List ℕ → List ℕ → List Row
restore_rows file s ram store =
    no_bytes s ∷ no_ram (length ram) ∷ other_ram file (length ram) ∷ no_frame (length store) ∷ no_save file ∷ []

-- refusal number (0: none), state bytes, RAM and frame store
pub record Restored : Type 0 where
  pub number : ℕ
  pub state : List ℕ
  pub ram : List ℕ
  pub store : List ℕ

abbrev pub restored : ℕ → List ℕ → List ℕ → List ℕ → Restored
restored n s ram store = record { number = n; state = s; ram = ram; store = store }

-- Reading puts the three into what is lent. Refused, nothing is changed
unfoldable pub restore_means : List ℕ → List ℕ → List ℕ → List ℕ → Restored
restore_means file s ram store =
    judged (lowest (restore_rows file s ram store)) (λ n. restored n s ram store)
    (restored 0 (state_in file) (ram_in file) (store_in file))
