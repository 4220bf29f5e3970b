-- `calls::write` meets its contract: it is judged, and then done. Assumes nothing.
use borrow.Author.Rules.{rules}
use mathlib.Core.Path.{ap, ◌∙◌}
use Rattle.std.proofs.lemmas.Result.{err_from_is_err_and, MatchResult-at_ok}
use Rattle.timing.proofs.Lent.{frame_lent}
use Rattle.controller.proofs.Refusals.{by_why, by_fits, fits_none}
use Rattle.cartridge.proofs.Refusals.{write_refuses, write_fits}
use Rattle.calls.specs.Aside.{in_bytes}
use Rattle.calls.proofs.Bytes.{put_bytes_lem, same}
use Rattle.calls.proofs.write.Goals as goal

pub returns-in_err-judge_write : goal.returns-in_err-judge_write
returns-in_err-judge_write c =
    let p = err_from_is_err_and c.from_residual.result c.from_residual.ensures.1 in
    rw (p.1, p.2) (put_bytes_lem (same _ (λ k. search rules) c.requires) (by_why (write_refuses _ _ _ _ _ _) _ c.judge_write.ensures _ c.in_err-judge_write.was))

pub unwrap-image-requires : goal.unwrap-image-requires
unwrap-image-requires c =
    let f = write_fits _ _ _ _ _ (fits_none _ _ c.judge_write.ensures c.in_ok-judge_write.was) in
    c.try_into.ensures.0 (frame_lent _ f.image_fits)

pub byte_write-requires : goal.byte_write-requires
byte_write-requires c =
    let f = write_fits _ _ _ _ _ (fits_none _ _ c.judge_write.ensures c.in_ok-judge_write.was) in
    (c.requires, f.ram_fits, frame_lent _ f.store_fits)

pub returns : goal.returns
returns c =
    let h = MatchResult-at_ok _ _ _ c.unwrap-image.ensures c.try_into.ensures.1 in
    rw h.same at c.byte_write.ensures ∙ ap in_bytes (by_fits (write_refuses _ _ _ _ _ _) _ c.judge_write.ensures c.in_ok-judge_write.was)
