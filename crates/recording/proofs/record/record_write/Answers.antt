-- `recording::record::record_write` meets its contract: `02` and six digits, of the address and of the byte. Assumes nothing.
use mathlib.Core.Path.{ap, ◌∙◌}
use mathlib.Core.Bool.{false}
use mathlib.Core.List.{◌++◌}
use native.Mathlib.Omega.{arith}
use Rattle.lines.specs.Hex.{hex_text}
use Rattle.recording.specs.Record.{line_of, cant_say, line_means, record_means}
use Rattle.recording.proofs.Written.{write_digits}
use Rattle.recording.proofs.record.record_write.Goals as goal

pub returns : goal.returns
unfolding record_means line_of cant_say
returns c =
    let a = c.args in
    c.record_digits.ensures
    ∙ ap (λ t. line_means false (hex_text 2 2 ++ t) a.out.now) (write_digits a.address a.value (omega arith))
