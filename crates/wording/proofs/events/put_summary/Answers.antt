-- `wording::events::put_summary` meets its contract: the counts are put one after another. Assumes nothing.
use native.Mathlib.Omega.{arith}
use Rattle.wording.specs.Events.{summary_text}
use Rattle.wording.proofs.Puts.{put_within, put_then}
use Rattle.wording.proofs.events.put_summary.Goals as goal

pub returns : goal.returns
unfolding summary_text
returns c =
    put_within
    (put_then c.put_count-a.ensures
    (put_then c.put_count-b.ensures
    (put_then c.put_count-c.ensures
    (put_then c.put_count-d.ensures
    (λ _. c.put_ends.ensures))))
    (omega (arith, c.requires)))
    400
    (omega arith)
