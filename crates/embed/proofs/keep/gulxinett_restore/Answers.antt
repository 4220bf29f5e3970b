-- `embed::keep::gulxinett_restore` meets its contract: the file read, or the refusal. Assumes nothing.
use Rattle.embed.proofs.Saves.{restore_read}
use Rattle.embed.proofs.keep.gulxinett_restore.Goals as goal

pub returns : goal.returns
returns c =
    let r = c.restore in
    restore_read _ _ _ _ r.result _ _ _ r.ensures _ c.answer.ensures
