-- Aside: devices of contracts between functions. Nothing here need be believed: every use of it is tied by a proof to the definitions beside it.
-- What some cycles of a running capture leave of the state, and the rows of what a tick is lent besides it. Assumes nothing.
use Rattle.std.specs.Prelude.{List, [], ◌∷◌, ℕ, length, Some, None}
use Rattle.std.specs.declared.option.Option.{Option}
use Rattle.timing.specs.declared.Cycles.{Cycles}
use Rattle.controller.specs.declared.Controller.{Controller}
use Rattle.controller.specs.Table.{Row, no_ram, no_frame}
use Rattle.capture.specs.Capture.{moved, ended}

-- the state at a number of elapsed cycles, or its end
abbrev pub after : Option Cycles → Controller → Controller
after (Some elapsed) c = moved c elapsed.0
after None c = ended c

abbrev pub lent_to_tick : List ℕ → List ℕ → List Row
lent_to_tick ram store = no_ram (length ram) ∷ no_frame (length store) ∷ []
