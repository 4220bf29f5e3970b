-- `embed::gulxinett_inspect` meets its contract: bytes that are no record, the element found, none, or the refusal. Assumes nothing.
use mathlib.Core.Path.{sym, ap, ◌∙◌}
use Rattle.std.specs.Prelude.{Ok}
use Prim.Native.Nat.{◌+◌, ◌*◌}
use Rattle.answers.specs.Packed.{packed}
use Rattle.embed.proofs.Cases.{inspect_unread, inspect_found}
use Rattle.embed.proofs.gulxinett_inspect.Goals as goal

pub returns-then-not-is_record : goal.returns-then-not-is_record
returns-then-not-is_record c =
    c.refused.ensures ∙ sym (inspect_unread _ (sym c.is_record.ensures ∙ c.if-not-is_record.true))

pub returns-in-Ok-Some : goal.returns-in-Ok-Some
returns-in-Ok-Some c =
    let x = c.from.ensures in
    let y = c.from-in-Ok-Some.ensures in
    inspect_found _ (sym c.is_record.ensures ∙ c.if-not-is_record.false) _ _ c.decode.ensures c.inspect.ensures _ (c.in-Ok-Some.is ∙ ap Ok c.in-Ok-Some.field-0-is) _
    (c.pack.ensures ∙ (λ i. packed 0 (0x100 + 16 * x i + y i)))

pub returns-in-Ok-None : goal.returns-in-Ok-None
returns-in-Ok-None c =
    inspect_found _ (sym c.is_record.ensures ∙ c.if-not-is_record.false) _ _ c.decode.ensures c.inspect.ensures _ (c.in-Ok-None.is ∙ ap Ok c.in-Ok-None.field-0-is) _ c.pack-in-Ok-None.ensures

pub returns-in-Err : goal.returns-in-Err
returns-in-Err c =
    inspect_found _ (sym c.is_record.ensures ∙ c.if-not-is_record.false) _ _ c.decode.ensures c.inspect.ensures _ c.in-Err.is _ c.refused-in-Err.ensures

pub decode-requires : goal.decode-requires
decode-requires c = sym c.is_record.ensures ∙ c.if-not-is_record.false
