-- `controller::Controller::picture` meets its contract: it is judged, and then the image is lit and the picture filled from its light.
-- Assumes nothing.
use Rattle.std.proofs.Common.{List, ap, ◌∙◌}
use Rattle.lighting.specs.declared.Setting.{Setting}
use Rattle.lighting.specs.Light.{byte_at, light_frame, lit_of}
use Rattle.tiles.specs.Picture.{picture_of}
use Rattle.tiles.proofs.Lit.{picture_light}
use Rattle.controller.specs.Picture.{picture_rows, afresh}
use Rattle.controller.specs.Table.{lowest}
use Rattle.std.proofs.lemmas.Result.{err_from_is_err_and, MatchResult-at_ok}
use Rattle.controller.proofs.Refusals.{picture_refuses, by_why, by_fits}
use Rattle.controller.proofs.Controller.picture.Goals as goal

pub returns-in_err-no_frame : goal.returns-in_err-no_frame
unfolding picture_rows lowest
returns-in_err-no_frame c =
    let p = err_from_is_err_and c.from_residual.result c.from_residual.ensures.1 in
    rw (p.1, p.2) (by_why (picture_refuses _ _ _) _ c.no_frame.ensures _ c.in_err-no_frame.was)

pub returns : goal.returns
unfolding picture_rows lowest
returns c =
    let a = c.args in
    let h = MatchResult-at_ok _ _ _ c.unwrap-image.ensures c.try_into.ensures.1 in
    ap (afresh 0)
    (c.fill.ensures
    ∙ ap (λ (s : List _). picture_of (byte_at s) a.regs) (c.light_frame.ensures ∙ ap (λ (i : List _). light_frame i c.of-set.result) h.same)
    ∙ picture_light a.image.now _ a.regs
    ∙ ap (λ (s : Setting). picture_of (lit_of a.image.now s) a.regs) c.of-set.ensures.same)
    ∙ by_fits (picture_refuses _ _ _) _ c.no_frame.ensures c.in_ok-no_frame.was
