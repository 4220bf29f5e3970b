-- The export of a plate: when it is refused. Assumes nothing.
use mathlib.Core.Path.{◌≡◌, refl}
use mathlib.Core.Bool.{true}
use mathlib.Core.List.{List, ◌++◌}
use Prim.Native.Nat.{ℕ, ◌≤◌}
use lib.ListN.{length, drop}
use Rattle.timing.specs.Lent.{ram_allowed}
use Rattle.controller.specs.Table.{lowest}
use Rattle.controller.proofs.Refusals.{Refuses, refuses, rising_from}
use Rattle.plates.specs.Grey.{plate_of, export_rows, export_means}
use Rattle.shades.specs.Shades.{exported}
use Rattle.shades.proofs.Outputs.{in_exported, room_fits}

-- an export is refused by the lowest number of its rows, and only then
pub export_refuses : (ram out : List ℕ) → Refuses (export_rows ram out) in_exported (λ n. exported n 0 out) (export_means ram out) (exported 0 14351 (plate_of ram ++ drop 14351 out))
unfolding export_rows export_means rising_from
export_refuses ram out =
    refuses (export_rows ram out) in_exported (λ n. exported n 0 out) (exported 0 14351 (plate_of ram ++ drop 14351 out)) (λ n. refl) refl refl

pub export_fits : (ram out : List ℕ) → lowest (export_rows ram out) ≡ 0 → (ram_allowed (length ram) ≡ true) × (14351 ≤ length out)
unfolding export_rows
export_fits ram out e = room_fits 14351 ram out e
