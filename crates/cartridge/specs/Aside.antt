-- Aside: devices of contracts between functions. Nothing here need be believed: every use of it is tied by a proof to the definitions beside it.
-- What a read and a write look at of a record, and the rows of what they are lent besides it. Assumes nothing.
use Rattle.std.specs.Prelude.{Bool, false, List, [], ◌∷◌, ℕ, length}
use Rattle.controller.specs.declared.Controller.{Controller}
use Rattle.controller.specs.Table.{Row, no_rom, no_ram, no_frame, no_place}

-- a record that has these: write enable, ROM bank, select, register 0
abbrev pub facing : Bool → ℕ → ℕ → ℕ → Controller
facing enabled bank select first = record {
  enabled = enabled;
  bank = bank;
  select = select;
  registers = first ∷ [];
  held = false;
  taken = [];
  elapsed = record { 0 = 0 };
  started = 0;
  ended = 0;
}

abbrev pub lent_to_read : List ℕ → List ℕ → ℕ → List Row
lent_to_read rom ram a = no_rom (length rom) ∷ no_ram (length ram) ∷ no_place a ∷ []

abbrev pub lent_to_write : List ℕ → List ℕ → List ℕ → ℕ → List Row
lent_to_write ram store image a = no_ram (length ram) ∷ no_frame (length store) ∷ no_frame (length image) ∷ no_place a ∷ []
