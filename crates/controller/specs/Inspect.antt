-- Matrix inspection. Assumes nothing.
use Rattle.std.specs.Prelude.{ℕ, ◌/◌, ◌%◌, true, false, List, [], ◌∷◌, nat_lt}
use Rattle.laws.specs.Pick.{pick}
use Rattle.controller.specs.declared.Controller.{Controller}
use Rattle.matrix.specs.Matrix.{first_in}
use Rattle.controller.specs.Outcome.{Inspection}
use Rattle.controller.specs.Table.{Row, no_state, lowest, judged}

-- The element is named by its row and column, 0 to 3 each; or that there is none
abbrev pub named : ℕ → Inspection
named k =
    pick (nat_lt k 16) (record { number = 0; found = true; row = k / 4; column = k % 4 })
    (record { number = 0; found = false; row = 0; column = 0 })

-- It refuses 1, with no element
abbrev pub no_element : ℕ → Inspection
no_element n = record { number = n; found = false; row = 0; column = 0 }

unfoldable pub inspect_rows : Controller → List Row
inspect_rows c = no_state c ∷ []

-- given a state, it answers from its current registers (not the taken ones)
unfoldable pub inspect_means : Controller → Inspection
inspect_means c = judged (lowest (inspect_rows c)) no_element (named (first_in c.registers 0 16))
