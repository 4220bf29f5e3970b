-- What a tick means, refusals too. Assumes nothing.
use Rattle.std.specs.Prelude.{List, [], ◌∷◌, ℕ, length}
use Rattle.lighting.specs.Light.{byte_at}
use Rattle.controller.specs.declared.Controller.{Controller}
use Rattle.controller.specs.Outcome.{Outcome, outcome, refusal}
use Rattle.capture.specs.Capture.{Ticking, ticks, from}
use Rattle.controller.specs.Table.{Row, no_state, no_ram, no_frame, lowest, judged}

-- Each call checks all it was lent, used or unused, lowest number first. A tick is lent RAM and frame store, whose bytes are read as lit values
unfoldable pub tick_rows : Controller → List ℕ → List ℕ → List Row
tick_rows c ram store = no_state c ∷ no_ram (length ram) ∷ no_frame (length store) ∷ []

abbrev pub ticked : List ℕ → Ticking → Outcome
ticked store w = outcome 0 w.ran w.state w.ram store

unfoldable pub tick_means : Controller → List ℕ → List ℕ → ℕ → Outcome
tick_means c ram store n =
    judged (lowest (tick_rows c ram store)) (refusal c ram store) (ticked store (ticks (byte_at store) n (from c ram)))
