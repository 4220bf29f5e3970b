-- `crc::run` meets its contract: one byte after another. Assumes nothing.
use borrow.Author.Rules.{rules}
use Rattle.std.proofs.iter.runs.Made.{chains}
use Rattle.crc.proofs.Steps.{over_fold}
use Rattle.crc.proofs.run.Goals as goal

pub returns : goal.returns
returns c = rw (← over_fold) (search (rules, chains))
