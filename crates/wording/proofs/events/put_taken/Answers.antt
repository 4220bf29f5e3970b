-- `wording::events::put_taken` meets its contract: checksum, row and registers are put one after another. Assumes nothing.
use native.Mathlib.Omega.{arith}
use Rattle.wording.proofs.Puts.{put_within, put_then}
use Rattle.wording.proofs.events.put_taken.Goals as goal

pub returns : goal.returns
returns c =
    put_within
    (put_then c.put_code-a.ensures
    (put_then c.put_count-b.ensures
    (put_then c.put_registers-c.ensures
    (λ _. c.put_word.ensures)))
    (omega (arith, c.requires)))
    160
    (omega arith)
