-- `wording::events::put_registers` meets its contract: the digits are put after the word. Assumes nothing.
use native.Mathlib.Omega.{arith}
use Rattle.wording.proofs.Puts.{put_within, put_then, put_row_lem}
use Rattle.wording.proofs.events.put_registers.Goals as goal

pub returns : goal.returns
returns c =
    put_within
    (put_then c.put_word-a.ensures
    (λ _. put_row_lem _ _ _ 108 (omega (arith, c.told-registers)) c.put_bytes.ensures)
    (omega (arith, c.requires)))
    119
    (omega arith)
