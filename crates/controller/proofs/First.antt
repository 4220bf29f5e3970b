-- The first reversed element, named. Assumes nothing.
use Rattle.std.proofs.Common.{◌≡◌, ℕ, ◌/◌, ◌%◌, true, false, ltb, List, sym}
use Rattle.matrix.specs.Matrix.{first_in}
use Rattle.controller.specs.Inspect.{named}

-- no element, or one
module _ (regs : List ℕ) (k : ℕ) (first : k ≡ first_in regs 0 16) where
  pub named_level : ltb k 16 ≡ false → record { number = 0; found = false; row = 0; column = 0 } ≡ named (first_in regs 0 16)
  named_level h = simp (sym first, h)

  pub named_at : ltb k 16 ≡ true → record { number = 0; found = true; row = k / 4; column = k % 4 } ≡ named (first_in regs 0 16)
  named_at h = simp (sym first, h)
