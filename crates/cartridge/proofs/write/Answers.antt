-- `cartridge::write` meets its contract: it is judged, and then done. Assumes nothing.
use mathlib.Core.Path.{ap, ◌∙◌}
use Rattle.std.proofs.lemmas.Result.{MatchResult-at_ok}
use Rattle.cartridge.specs.Calls.{wrote}
use Rattle.timing.proofs.Lent.{frame_lent}
use Rattle.cartridge.proofs.Refusals.{write_refuses, write_fits}
use Rattle.controller.proofs.Refusals.{by_why, by_fits, fits_none}
use Rattle.cartridge.proofs.write.Goals as goal

pub returns-in-Err : goal.returns-in-Err
returns-in-Err c = by_why (write_refuses _ _ _ _ _ _) _ c.judge_write.ensures _ c.in-Err.is

pub unwrap-image-requires : goal.unwrap-image-requires
unwrap-image-requires c =
    let f = write_fits _ _ _ _ _ (fits_none _ _ c.judge_write.ensures c.in_default.is) in
    c.try_into.ensures.0 (frame_lent _ f.image_fits)

pub byte_write-next-requires : goal.byte_write-next-requires
byte_write-next-requires c =
    let f = write_fits _ _ _ _ _ (fits_none _ _ c.judge_write.ensures c.in_default.is) in
    (f.ram_fits, frame_lent _ f.store_fits)

pub returns : goal.returns
returns c =
    let h = MatchResult-at_ok _ _ _ c.unwrap-image.ensures c.try_into.ensures.1 in
    ap wrote (rw h.same at c.byte_write-next.ensures) ∙ by_fits (write_refuses _ _ _ _ _ _) _ c.judge_write.ensures c.in_default.is
