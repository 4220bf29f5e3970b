-- `wording::events::put_unchanged` meets its contract: the word is put after the line. Assumes nothing.
use native.Mathlib.Omega.{arith}
use Rattle.wording.specs.Events.{unchanged_text}
use Rattle.wording.proofs.Puts.{put_within, put_then}
use Rattle.wording.proofs.events.put_unchanged.Goals as goal

pub returns : goal.returns
unfolding unchanged_text
returns c =
    put_within
    (put_then c.put_count-a.ensures
    (λ _. c.put_word.ensures)
    (omega (arith, c.requires)))
    256
    (omega arith)
