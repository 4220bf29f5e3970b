-- `photos::header::ends` meets its contract: the last part is one white space byte, and nothing follows. Assumes nothing.
use mathlib.Core.Path.{sym, ◌∙◌}
use borrow.Author.Tests.{ne_eqb}
use Rattle.photos.proofs.Reader.{last_long, last_by}
use Rattle.photos.proofs.header.ends.Goals as goal

pub returns-then-text-at : goal.returns-then-text-at
returns-then-text-at c = last_by c.args.text.now c.is_white.result c.args.at c.is_white.ensures c.if-text-at.true

pub returns-else-text-at : goal.returns-else-text-at
returns-else-text-at c = last_long c.args.text.now c.args.at c.requires c.if-text-at.false ∙ sym (ne_eqb _ _ c.if-text-at.false)
