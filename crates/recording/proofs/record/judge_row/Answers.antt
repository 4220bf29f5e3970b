-- `recording::record::judge_row` meets its contract: row by row. Assumes nothing.
use Rattle.std.proofs.Common.{rules}
use Rattle.controller.proofs.Judging.{refused, exit}
use Rattle.recording.specs.Record.{record_rows}
use Rattle.recording.proofs.Written.{room_judged}
use Rattle.recording.proofs.record.judge_row.Goals as goal

pub returns-in_err-refused_if : goal.returns-in_err-refused_if
unfolding record_rows
returns-in_err-refused_if c = search (rules, refused, exit)

pub returns : goal.returns
returns c =
    let a = c.args in
    room_judged a.row a.bytes.now a.out.now (rw c.row_allowed.ensures at c.in_ok-refused_if.ensures) c.no_room.ensures
