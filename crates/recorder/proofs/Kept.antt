-- A refused salvage leaves both buffers as they were. Assumes nothing.
use mathlib.Core.Path.{◌≡◌, refl, sym, ap, ◌∙◌}
use mathlib.Core.List.{List}
use Prim.Native.Nat.{ℕ, zero, suc, ◌+◌, ◌/◌, ◌*◌}
use Rattle.controller.specs.Table.{lowest, judged}
use Rattle.salvaging.specs.Salvage.{salvage_rows, salvage_done, salvage_means, unsalvaged}
use Rattle.answers.specs.Packed.{packed}
use Rattle.recorder.specs.Recorder.{reported, salvage_bytes}
use Rattle.recorder.proofs.Only.{salvage_says}

-- a salvage that is refused has no lines and no length, and writes nothing
refused_salvage : (script text report : List ℕ) (n : ℕ) → lowest (salvage_rows script text report) ≡ n → (0 ≡ (salvage_means script text report).number → ⊥)
    → salvage_means script text report ≡ unsalvaged text report n
unfolding salvage_means salvage_done
refused_salvage script text report zero e some = absurd (some (sym (ap (λ n. (judged n (unsalvaged text report) (salvage_done script text report)).number) e)))
refused_salvage script text report (suc k) e some = ap (λ n. judged n (unsalvaged text report) (salvage_done script text report)) e

pub salvage_kept : (script text report : List ℕ) → (0 ≡ (salvage_bytes script text report).answer / 4294967296 → ⊥)
    → salvage_bytes script text report ≡ reported (packed (salvage_means script text report).number 0) text report
unfolding salvage_bytes
salvage_kept script text report some =
    let k = refused_salvage script text report (lowest (salvage_rows script text report)) refl (λ z. some (z ∙ sym (salvage_says script text report).number)) in
    λ i. reported (packed (salvage_means script text report).number ((k i).lines * 65536 + (k i).length)) (k i).text (k i).report
