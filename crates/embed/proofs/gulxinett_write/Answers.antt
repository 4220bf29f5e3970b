-- `embed::gulxinett_write` meets its contract: bytes that are no record, or what the call over bytes answers and leaves. Assumes nothing.
use mathlib.Core.Path.{sym, ap, ◌∙◌}
use Rattle.answers.specs.Called.{called}
use Rattle.embed.proofs.Cases.{as_called, write_unread, write_done}
use Rattle.embed.proofs.gulxinett_write.Goals as goal

pub returns-then-not-is_record : goal.returns-then-not-is_record
returns-then-not-is_record c =
    let a = c.args in
    ap (λ p. called p a.state.now a.ram.now a.store.now) c.refused.ensures
    ∙ sym (write_unread _ _ _ _ _ _ (sym c.is_record.ensures ∙ c.if-not-is_record.true))

pub returns : goal.returns
returns c =
    as_called c.write.ensures c.answer.ensures (write_done _ _ _ _ _ _ (sym c.is_record.ensures ∙ c.if-not-is_record.false))

pub write-requires : goal.write-requires
write-requires c = sym c.is_record.ensures ∙ c.if-not-is_record.false
