-- `embed::gulxinett_choose` meets its contract: bytes that are no record, the choice done, or the refusal. Assumes nothing.
use mathlib.Core.Path.{sym, ap, ◌∙◌}
use mathlib.Core.List.{[]}
use borrow.Author.Rules.{rules}
use Rattle.answers.specs.Called.{called}
use Rattle.embed.proofs.Cases.{choose_unread, choose_chose, choose_refusal}
use Rattle.layout.proofs.Inverse.{record_parts}
use Rattle.embed.proofs.gulxinett_choose.Goals as goal

pub returns-then-not-is_record : goal.returns-then-not-is_record
returns-then-not-is_record c =
    ap (λ p. called p c.args.state.now [] []) c.refused.ensures
    ∙ sym (choose_unread _ _ _ _ _ (sym c.is_record.ensures ∙ c.if-not-is_record.true))

pub encode-requires : goal.encode-requires
encode-requires c =
    (record_parts _ (sym c.is_record.ensures ∙ c.if-not-is_record.false)).long

pub returns-in-Ok : goal.returns-in-Ok
returns-in-Ok c =
    choose_chose _ _ _ _ _ (sym c.is_record.ensures ∙ c.if-not-is_record.false) _ _ _ c.decode.ensures c.exposure_in.ensures c.choose-done.ensures c.in-Ok.is _ _ c.pack.ensures c.encode.ensures

pub returns-in-Err : goal.returns-in-Err
returns-in-Err c =
    choose_refusal _ _ _ _ _ (sym c.is_record.ensures ∙ c.if-not-is_record.false) _ _ _ c.decode.ensures c.exposure_in.ensures c.choose-done.ensures (λ k. search rules) _ c.in-Err.is _ c.refused-in-Err.ensures

pub decode-requires : goal.decode-requires
decode-requires c = sym c.is_record.ensures ∙ c.if-not-is_record.false
