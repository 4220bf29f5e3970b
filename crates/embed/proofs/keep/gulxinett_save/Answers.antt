-- `embed::keep::gulxinett_save` meets its contract: the file written, or the refusal. Assumes nothing.
use Rattle.embed.proofs.Saves.{save_written}
use Rattle.embed.proofs.keep.gulxinett_save.Goals as goal

pub returns : goal.returns
returns c = let r = c.save in save_written _ _ _ _ r.result _ r.ensures _ c.answer.ensures
