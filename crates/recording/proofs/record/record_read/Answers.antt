-- `recording::record::record_read` meets its contract: `01` and four digits. Assumes nothing.
use Rattle.lines.specs.Hex.{hex_text}
use Rattle.recording.specs.Record.{line_of, cant_say, record_means}
use Rattle.recording.proofs.record.record_read.Goals as goal

pub returns : goal.returns
unfolding record_means line_of cant_say hex_text
returns c = c.record_digits.ensures
