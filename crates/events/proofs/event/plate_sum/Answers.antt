-- `events::event::plate_sum` meets its contract: the export is not refused. Assumes nothing.
use mathlib.Core.Path.{ap, ◌∙◌}
use Prim.Native.Nat.{ℕ}
use lib.ListN.{length-replicate}
use Rattle.crc.specs.Crc.{crc_of}
use Rattle.events.proofs.Sights.{plate_file}
use Rattle.events.proofs.event.plate_sum.Goals as goal

pub returns : goal.returns
returns c = c.crc32_small.ensures ∙ ap crc_of (plate_file _ _ _ _ _ c.requires (length-replicate {A = ℕ} 14351 0) c.export.ensures)
