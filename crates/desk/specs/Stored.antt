-- Choices that desks know by name, each for a bright table. Assumes nothing.
use Rattle.std.specs.Prelude.{Bool, true, false, ℕ}
use Rattle.controller.specs.declared.Controller.{Controller}
use Rattle.controller.specs.Outcome.{Outcome}
use Rattle.std.specs.Prelude.{Some}
use Rattle.desk.specs.declared.stored.Stored.{Stored}
use Rattle.desk.specs.Choice.{choose_means}

-- a bright table is light set 0, and names exposure 0300h
abbrev pub bright_table : ℕ → Bool → Stored
bright_table level plain = record { light = 0; level = level; plain = plain; exposure = Some 0x0300 }

-- a stored choice is chosen as any other
abbrev pub stored_means : Controller → Stored → Outcome
stored_means c s = choose_means c s.light s.level s.plain s.exposure

-- type slide, bright table: high contrast, dithering off
abbrev pub type_slide : Stored
type_slide = bright_table 11 true

-- pinned beetle, bright table: the default contrast
abbrev pub pinned_beetle : Stored
pinned_beetle = bright_table 7 false

-- herbarium sheet, bright table: low contrast
abbrev pub herbarium_sheet : Stored
herbarium_sheet = bright_table 4 false
