-- `wording::events::put_changed` meets its contract: bank and offsets are put one after another. Assumes nothing.
use native.Mathlib.Omega.{arith}
use Rattle.wording.specs.Events.{changed_text}
use Rattle.wording.proofs.Puts.{put_within, put_then}
use Rattle.wording.proofs.events.put_changed.Goals as goal

pub returns : goal.returns
unfolding changed_text
returns c =
    put_within
    (put_then c.put_count-a.ensures
    (put_then c.put_code-b.ensures
    (put_then c.put_code-c.ensures
    (put_then c.put_code-d.ensures
    (λ _. c.put_word.ensures))))
    (omega (arith, c.requires)))
    256
    (omega arith)
