-- `recording::record::put_row` meets its contract: kind, row, bytes and LF are put one after another. Assumes nothing.
use mathlib.Core.Path.{ap, ◌∙◌}
use lib.ListN.{set}
use Rattle.lines.specs.Hex.{hex_text, placed}
use Rattle.recording.specs.Record.{row_hex}
use Rattle.recording.proofs.Written.{row_put}
use Rattle.recording.proofs.record.put_row.Goals as goal

pub returns : goal.returns
returns c =
    let two = c in
    let one = two in
    let a = one.args in
    let row = hex_text 2 a.row in
    ap (λ o. set o 260 0x0A)
    (c.put_bytes.ensures
    ∙ ap (λ o. placed o 4 (row_hex a.bytes.now)) (two.put_digits-2.ensures ∙ ap (λ o. placed o 2 row) one.put_digits.ensures))
    ∙ row_put a.row a.bytes.now a.out.now one.requires.0 one.requires.1
