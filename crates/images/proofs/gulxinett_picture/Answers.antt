-- `images::gulxinett_picture` meets its contract: the picture drawn, or the refusal. Assumes nothing.
use Rattle.images.proofs.Cases.{picture_drawn}
use Rattle.images.proofs.gulxinett_picture.Goals as goal

pub returns : goal.returns
returns c = let r = c.picture in picture_drawn _ _ _ r.result _ r.ensures _ c.answer.ensures
