-- `images::gulxinett_readings` meets its contract: bytes that are no record, the values written, or the refusal. Assumes nothing.
use mathlib.Core.Path.{sym, ap, ◌∙◌}
use Rattle.answers.specs.Called.{filled}
use Rattle.images.proofs.Cases.{readings_unread, readings_written}
use Rattle.images.proofs.gulxinett_readings.Goals as goal

pub returns-then-not-is_record : goal.returns-then-not-is_record
returns-then-not-is_record c =
    ap (λ p. filled p c.args.out.now) c.refused.ensures
    ∙ sym (readings_unread _ _ _ (sym c.is_record.ensures ∙ c.if-not-is_record.true))

pub returns : goal.returns
returns c =
    readings_written _ _ _ (sym c.is_record.ensures ∙ c.if-not-is_record.false) _ c.readings.result _ c.decode.ensures c.readings.ensures _ c.answer.ensures

pub decode-requires : goal.decode-requires
decode-requires c = sym c.is_record.ensures ∙ c.if-not-is_record.false
