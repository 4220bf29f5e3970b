-- `wording::events::put_ends` meets its contract: the counts are put one after another. Assumes nothing.
use native.Mathlib.Omega.{arith}
use Rattle.wording.proofs.Puts.{put_within, put_then}
use Rattle.wording.proofs.events.put_ends.Goals as goal

pub returns : goal.returns
returns c =
    put_within
    (put_then c.put_count-a.ensures
    (put_then c.put_count-b.ensures
    (put_then c.put_count-c.ensures
    (put_then c.put_count-d.ensures
    (put_then c.put_count-e.ensures
    (λ _. c.put_word.ensures)))))
    (omega (arith, c.requires)))
    140
    (omega arith)
