-- `images::gulxinett_import_photo` meets its contract: the photograph read, or the refusal. Assumes nothing.
use Rattle.images.proofs.Cases.{import_read}
use Rattle.images.proofs.gulxinett_import_photo.Goals as goal

pub returns : goal.returns
returns c = let r = c.import in import_read _ _ r.result _ r.ensures _ c.answer.ensures
