-- `wording::events::put_touched` meets its contract: the verdict is put after the rest. Assumes nothing.
use native.Mathlib.Omega.{arith}
use Rattle.wording.specs.Events.{touched_text}
use Rattle.wording.proofs.Puts.{put_within, put_named, put_then, end_joined}
use Rattle.wording.proofs.events.put_touched.Goals as goal

pub returns : goal.returns
unfolding touched_text
returns c =
    let a = c.args in
    put_within
    (put_named
    (put_then c.put_end-a.ensures
    (put_then c.put_count-b.ensures
    (put_then c.put_count-c.ensures
    (put_then c.put_count-d.ensures
    (λ _. c.put_word.ensures))))
    (omega (arith, c.requires)))
    (end_joined a.line a.serial a.cycles a.plate _))
    256
    (omega arith)
