-- `save::reading::is_other` meets its contract: a save is as long as its RAM and the rest. Assumes nothing.
use Rattle.std.proofs.Common.{◌≡◌, ℕ, ◌-◌, not, eqb, length, ap, sym, ◌∙◌, arith}
use Rattle.save.specs.Restore.{ram_length_in}
use Rattle.save.proofs.Restored.{save_parts}
use Rattle.save.proofs.reading.is_other.Goals as goal

pub returns-then-good : goal.returns-then-good
returns-then-good c =
    let a = c.args in
    let size = (save_parts a.file.now (sym c.requires ∙ c.if-good.true)).size in
    let e : length a.file.now - 16516 ≡ ram_length_in a.file.now = omega (arith, size.long) in
    simp (sym c.requires ∙ c.if-good.true) (ap (λ (n : ℕ). not (eqb a.ram n)) e)

pub overflow_sub-result : goal.overflow_sub-result
overflow_sub-result c = omega (arith, (save_parts c.args.file.now (sym c.requires ∙ c.if-good.true)).size.long)
