-- `images::gulxinett_place` meets its contract: bytes that are no record, the file placed, or the refusal. Assumes nothing.
use mathlib.Core.Path.{sym, ap, ◌∙◌}
use mathlib.Core.List.{[]}
use borrow.Author.Rules.{rules}
use Rattle.answers.specs.Called.{called}
use Rattle.images.proofs.Cases.{place_unread, place_answered}
use Rattle.images.proofs.gulxinett_place.Goals as goal

pub returns-then-not-is_record : goal.returns-then-not-is_record
returns-then-not-is_record c =
    let a = c.args in
    ap (λ p. called p a.state.now a.ram.now []) c.refused.ensures
    ∙ sym (place_unread _ _ _ (sym c.is_record.ensures ∙ c.if-not-is_record.true))

pub returns : goal.returns
returns c =
    place_answered _ _ _ (λ k. search rules) (sym c.is_record.ensures ∙ c.if-not-is_record.false) _ c.place.result _ c.decode.ensures c.place.ensures _ c.answer.ensures

pub decode-requires : goal.decode-requires
decode-requires c = sym c.is_record.ensures ∙ c.if-not-is_record.false
