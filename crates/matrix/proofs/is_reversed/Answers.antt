-- `matrix::is_reversed` meets its contract. Assumes nothing.
use mathlib.Core.Path.{sym}
use Rattle.matrix.proofs.First.{reversed_left, reversed_right}
use borrow.Author.Tests.{lt-ltb, le-ltb}
use Rattle.matrix.proofs.is_reversed.Goals as goal

pub returns-then-regs-at : goal.returns-then-regs-at
returns-then-regs-at c = sym (reversed_left _ _ _ (lt-ltb _ _ c.if-regs-at.true))

pub returns : goal.returns
returns c = sym (reversed_right _ _ _ (le-ltb _ _ c.if-regs-at.false))
