-- `strips::turn` meets its contract: four steps turn a row. Assumes nothing.
use Rattle.strips.proofs.Columns.{turned}
use Rattle.strips.proofs.turn.Goals as goal

pub returns : goal.returns
returns c = turned c.args.values.now c.interleave-once.ensures c.interleave-twice.ensures c.interleave-thrice.ensures c.interleave.ensures
