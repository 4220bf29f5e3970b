-- What a read and a write mean, refusals too. Assumes nothing.
use Rattle.std.specs.Prelude.{List, [], ◌∷◌, ℕ, length}
use Rattle.controller.specs.declared.Controller.{Controller}
use Rattle.controller.specs.Outcome.{Outcome, outcome, refusal}
use Rattle.cartridge.specs.Bus.{byte_read, byte_written, Left}
use Rattle.controller.specs.Table.{Row, no_state, no_rom, no_ram, no_frame, no_place, lowest, judged}

-- Each call checks all it was lent, used or unused, lowest number first. A read is lent ROM and RAM
unfoldable pub read_rows : Controller → List ℕ → List ℕ → ℕ → List Row
read_rows c rom ram a = no_state c ∷ no_rom (length rom) ∷ no_ram (length ram) ∷ no_place a ∷ []

abbrev pub byte_of : Controller → List ℕ → List ℕ → ℕ → Outcome
byte_of c rom ram a = outcome 0 (byte_read c rom ram a) c ram []

unfoldable pub read_means : Controller → List ℕ → List ℕ → ℕ → Outcome
read_means c rom ram a = judged (lowest (read_rows c rom ram a)) (refusal c ram []) (byte_of c rom ram a)

-- a write RAM, frame store and image
unfoldable pub write_rows : Controller → List ℕ → List ℕ → List ℕ → ℕ → List Row
write_rows c ram store image a =
    no_state c ∷ no_ram (length ram) ∷ no_frame (length store) ∷ no_frame (length image) ∷ no_place a ∷ []

abbrev pub wrote : Left → Outcome
wrote l = outcome 0 0 l.state l.ram l.store

unfoldable pub write_means : Controller → List ℕ → List ℕ → List ℕ → ℕ → ℕ → Outcome
write_means c ram store image a v =
    judged (lowest (write_rows c ram store image a)) (refusal c ram store) (wrote (byte_written c ram store image a v))
