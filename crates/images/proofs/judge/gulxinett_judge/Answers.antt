-- `images::judge::gulxinett_judge` meets its contract: how many rows are equal, or the refusal. Assumes nothing.
use Rattle.images.proofs.Judges.{judge_answered}
use Rattle.images.proofs.judge.gulxinett_judge.Goals as goal

pub returns : goal.returns
returns c = judge_answered _ _ _ _ _ _ c.judge.ensures _ c.answer.ensures
