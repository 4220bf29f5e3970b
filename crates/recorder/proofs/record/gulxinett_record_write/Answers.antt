-- `recorder::record::gulxinett_record_write` meets its contract: what `record_write` recorded, packed. Assumes nothing.
use Rattle.recorder.proofs.Cases.{record_short, record_filled}
use Rattle.recorder.proofs.record.gulxinett_record_write.Goals as goal

pub answer-requires : goal.answer-requires
answer-requires c = let r = c.record_write in record_short _ _ _ r.result r.new.out r.ensures

pub returns : goal.returns
returns c = let r = c.record_write in record_filled _ _ _ r.result r.new.out r.ensures _ c.answer.ensures
