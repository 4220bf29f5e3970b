-- `embed::gulxinett_read` meets its contract: bytes that are no record, or what the call over bytes answers. Assumes nothing.
use mathlib.Core.Path.{sym, ap, ◌∙◌}
use mathlib.Core.List.{[]}
use Rattle.answers.specs.Called.{called}
use Rattle.embed.proofs.Cases.{as_called, read_unread, read_done}
use Rattle.embed.proofs.gulxinett_read.Goals as goal

pub returns-then-not-is_record : goal.returns-then-not-is_record
returns-then-not-is_record c =
    let a = c.args in
    ap (λ p. called p a.state.now a.ram.now []) c.refused.ensures
    ∙ sym (read_unread _ _ _ _ (sym c.is_record.ensures ∙ c.if-not-is_record.true))

pub returns : goal.returns
returns c =
    as_called c.read.ensures c.answer.ensures (read_done _ _ _ _ (sym c.is_record.ensures ∙ c.if-not-is_record.false))

pub read-requires : goal.read-requires
read-requires c = sym c.is_record.ensures ∙ c.if-not-is_record.false
