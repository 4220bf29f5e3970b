-- `images::gulxinett_export` meets its contract: the file written, or the refusal. Assumes nothing.
use Rattle.images.proofs.Cases.{export_written}
use Rattle.images.proofs.gulxinett_export.Goals as goal

pub returns : goal.returns
returns c = let r = c.export in export_written _ _ r.result _ r.ensures _ c.answer.ensures
