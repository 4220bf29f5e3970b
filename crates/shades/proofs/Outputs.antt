-- What is answered where bytes are put in a lent buffer: that no second outcome fits; and when a reading of shades is refused. Assumes nothing.
use mathlib.Core.Path.{◌≡◌, refl, sym, ap}
use mathlib.Core.Bool.{true}
use mathlib.Core.List.{List, [], ◌∷◌, ◌++◌}
use Prim.Native.Nat.{ℕ, ◌≤◌}
use lib.ListN.{length, drop}
use borrow.Author.Tests.{ltb-false}
use Rattle.laws.proofs.Bools.{not_fails}
use Rattle.timing.specs.Lent.{ram_allowed}
use Rattle.controller.specs.Table.{no_ram, no_room, lowest}
use Rattle.controller.proofs.Only.{only_number, some_number}
use Rattle.controller.proofs.Refusals.{Refuses, refuses, rising_from, first_fails}
use Rattle.std.specs.declared.result.Result.{Result}
use Rattle.controller.specs.declared.Refusal.{Refusal}
use Rattle.std.specs.Prelude.{Ok, Err}
use Rattle.shades.specs.Shades.{Exported, exported, output_number, output_value, shades_of, shades_rows, shades_means}

abbrev pub in_exported : Exported → ℕ
in_exported e = e.number

-- what is so where neither 3 nor 7 is given
pub room_fits : (bytes : ℕ) (ram out : List ℕ) → lowest (no_ram (length ram) ∷ no_room bytes (length out) ∷ []) ≡ 0 → (ram_allowed (length ram) ≡ true) × (bytes ≤ length out)
room_fits bytes ram out e =
    let m = first_fails _ _ e in
    let r = first_fails _ _ m.1 in
    (not_fails _ m.0, ltb-false (length out) bytes r.0)

-- a reading of shades
pub shades_refuses : (ram out : List ℕ) → Refuses (shades_rows ram out) in_exported (λ n. exported n 0 out) (shades_means ram out) (exported 0 14336 (shades_of ram ++ drop 14336 out))
unfolding shades_rows shades_means rising_from
shades_refuses ram out =
    refuses (shades_rows ram out) in_exported (λ n. exported n 0 out) (exported 0 14336 (shades_of ram ++ drop 14336 out)) (λ n. refl) refl refl

pub shades_fits : (ram out : List ℕ) → lowest (shades_rows ram out) ≡ 0 → (ram_allowed (length ram) ≡ true) × (14336 ≤ length out)
unfolding shades_rows
shades_fits ram out e = room_fits 14336 ram out e

-- one answer, and one list of bytes
pub only_export : (r s : Result ℕ Refusal) (bytes bytes' : List ℕ) → exported (output_number r) (output_value r) bytes ≡ exported (output_number s) (output_value s) bytes' → (r ≡ s) × (bytes ≡ bytes')
only_export r s bytes bytes' e = (answer r s (λ i. (e i).number) (λ i. (e i).value), λ i. (e i).bytes)
  where
    answer : (r s : Result ℕ Refusal) → output_number r ≡ output_number s → output_value r ≡ output_value s → r ≡ s
    answer (Ok n) (Ok m) p q = ap Ok q
    answer (Ok n) (Err w) p q = absurd (some_number w p)
    answer (Err w) (Ok m) p q = absurd (some_number w (sym p))
    answer (Err w) (Err v) p q = ap Err (only_number w v p)
