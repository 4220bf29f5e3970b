-- `save::reading::is_sized` meets its contract: the banks that it names, and its length. Assumes nothing.
use Rattle.std.proofs.Common.{◌≡◌, length, get_or, sym, ◌∙◌, arith}
use borrow.Author.Tests.{ltb-false}
use Rattle.save.specs.Restore.{is_sized}
use Rattle.save.proofs.Restored.{short}
use Rattle.save.proofs.reading.is_sized.Goals as goal

pub returns-in_default : goal.returns-in_default
returns-in_default c = sym (short c.args.file.now (let h = ltb-false 6 (length c.args.file.now) (sym c.in_default.ensures.lookup.0) in omega arith))

pub returns-then-ram_allowed : goal.returns-then-ram_allowed
unfolding is_sized
returns-then-ram_allowed c =
    let bank : c.from-ram.result ≡ get_or c.args.file.now 6 0 = c.from-ram.ensures ∙ c.in-Some.ensures.lookup.3.1 0 in
    rw bank (simp (sym (rw bank at c.ram_allowed.ensures) ∙ c.if-ram_allowed.true))

pub returns-else-ram_allowed : goal.returns-else-ram_allowed
unfolding is_sized
returns-else-ram_allowed c =
    let bank : c.from-ram.result ≡ get_or c.args.file.now 6 0 = c.from-ram.ensures ∙ c.in-Some.ensures.lookup.3.1 0 in
    simp (sym (rw bank at c.ram_allowed.ensures) ∙ c.if-ram_allowed.false) c.if-ram_allowed.false
