-- The exported functions of a save: what they answer and leave, and that a refusal leaves every byte. Assumes nothing.
use mathlib.Core.Path.{◌≡◌, refl, sym, ap, ◌∙◌}
use mathlib.Core.List.{List}
use Prim.Native.Nat.{ℕ, zero, suc, ◌/◌, ◌<◌}
use lib.ListN.{length}
use native.Mathlib.Omega.{arith}
use Rattle.std.specs.declared.result.Result.{Result}
use Rattle.controller.specs.declared.Refusal.{Refusal}
use Rattle.std.specs.Prelude.{⊤}
use Rattle.controller.specs.Outcome.{write_number}
use Rattle.controller.specs.Table.{lowest}
use Rattle.shades.specs.Shades.{exported, output_number, output_value}
use Rattle.answers.specs.Packed.{packed}
use Rattle.timing.proofs.Lent.{ram_lent}
use Rattle.save.specs.Save.{save_rows, save_means}
use Rattle.save.specs.Restore.{restored, restore_means}
use Rattle.save.proofs.Saved.{save_refuses, save_fits}
use Rattle.save.proofs.Restored.{restore_refuses}
use Rattle.answers.specs.Called.{called, filled}
use Rattle.answers.proofs.Kept.{kept, written, written_kept}
use Rattle.answers.proofs.Only.{Says, packed_says}
use Rattle.embed.specs.Saves.{save_bytes, as_restored, restore_bytes}

pub save_written : (s ram store out : List ℕ) (r : Result ℕ Refusal) (left : List ℕ) → exported (output_number r) (output_value r) left ≡ save_means s ram store out
    → (p : ℕ) → p ≡ packed (output_number r) (output_value r) → filled p left ≡ save_bytes s ram store out
unfolding save_bytes
save_written s ram store out = written (save_means s ram store out)

pub restore_read : (file s ram store : List ℕ) (r : Result ⊤ Refusal) (s' ram' store' : List ℕ) → restored (write_number r) s' ram' store' ≡ restore_means file s ram store
    → (p : ℕ) → p ≡ packed (write_number r) 0 → called p s' ram' store' ≡ restore_bytes file s ram store
unfolding restore_bytes
restore_read file s ram store r s' ram' store' means p q = (λ i. called (q i) s' ram' store') ∙ ap as_restored means

-- ---- number and value in the answer

save_small : (s ram store out : List ℕ) → (save_means s ram store out).value < 4294967296
save_small s ram store out = by_number (lowest (save_rows s ram store out)) refl
  where
    by_number : (n : ℕ) → lowest (save_rows s ram store out) ≡ n → (save_means s ram store out).value < 4294967296
    by_number zero e = rw ((save_refuses s ram store out).does e) (omega (arith, (ram_lent (length ram) (save_fits s ram store out e).ram_fits).most))
    by_number (suc n) e = rw ((save_refuses s ram store out).kept n e) (omega arith)

pub save_says : (s ram store out : List ℕ) → Says (save_bytes s ram store out).answer (save_means s ram store out).number (save_means s ram store out).value
unfolding save_bytes
save_says s ram store out = packed_says _ _ (save_small s ram store out)

pub restore_says : (file s ram store : List ℕ) → Says (restore_bytes file s ram store).answer (restore_means file s ram store).number 0
unfolding restore_bytes
restore_says file s ram store = packed_says _ _ (omega arith)

-- ---- a refusal leaves every byte

pub save_kept : (s ram store out : List ℕ) → (0 ≡ (save_bytes s ram store out).answer / 4294967296 → ⊥) → (save_bytes s ram store out).bytes ≡ out
unfolding save_bytes
save_kept s ram store out some = written_kept (save_refuses s ram store out) (λ z. some (z ∙ sym (save_says s ram store out).number))

pub restore_kept : (file s ram store : List ℕ) → (0 ≡ (restore_bytes file s ram store).answer / 4294967296 → ⊥)
    → restore_bytes file s ram store ≡ called (restore_bytes file s ram store).answer s ram store
unfolding restore_bytes
restore_kept file s ram store some =
    let k = kept (restore_refuses file s ram store) (restore_means file s ram store).number (λ z. some (z ∙ sym (restore_says file s ram store).number)) refl in
    λ i. called (packed (restore_means file s ram store).number 0) (k i).state (k i).ram (k i).store
