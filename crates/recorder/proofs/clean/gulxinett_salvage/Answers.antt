-- `recorder::clean::gulxinett_salvage` meets its contract: the two counts in one value, or the refusal. Assumes nothing.
use mathlib.Core.Path.{ap, ◌∙◌}
use Rattle.answers.specs.Packed.{packed}
use Rattle.recorder.proofs.Cases.{cleaned_most, salvage_reported}
use Rattle.recorder.proofs.clean.gulxinett_salvage.Goals as goal

pub counts-requires : goal.counts-requires
counts-requires c = cleaned_most _ _ _ _ _ _ c.salvage.ensures _ c.in-Ok.is

pub returns-in-Ok : goal.returns-in-Ok
returns-in-Ok c = salvage_reported _ _ _ _ _ _ c.salvage.ensures _ c.in-Ok.is _ (c.pack.ensures ∙ ap (packed 0) c.counts.ensures)

pub returns-in-Err : goal.returns-in-Err
returns-in-Err c = salvage_reported _ _ _ _ _ _ c.salvage.ensures _ c.in-Err.is _ c.refused.ensures
