-- `images::gulxinett_shades` meets its contract: the shades written, or the refusal. Assumes nothing.
use Rattle.images.proofs.Cases.{shades_written}
use Rattle.images.proofs.gulxinett_shades.Goals as goal

pub returns : goal.returns
returns c = let r = c.shades in shades_written _ _ r.result _ r.ensures _ c.answer.ensures
