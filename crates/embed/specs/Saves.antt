-- What the exported functions of a save answer and leave. Assumes nothing.
use Rattle.std.specs.Prelude.{List, ℕ}
use Rattle.save.specs.Save.{save_means}
use Rattle.save.specs.Restore.{Restored, restore_means}
use Rattle.answers.specs.Packed.{packed}
use Rattle.answers.specs.Called.{Called, called, Filled, as_written}

-- state, RAM and frame store as one file: the value is its length
unfoldable pub save_bytes : List ℕ → List ℕ → List ℕ → List ℕ → Filled
save_bytes s ram store out = as_written (save_means s ram store out)

-- such a file back into the three: the value is 0
abbrev pub as_restored : Restored → Called
as_restored r = called (packed r.number 0) r.state r.ram r.store

unfoldable pub restore_bytes : List ℕ → List ℕ → List ℕ → List ℕ → Called
restore_bytes file s ram store = as_restored (restore_means file s ram store)
