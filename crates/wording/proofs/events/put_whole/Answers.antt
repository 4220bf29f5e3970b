-- `wording::events::put_whole` meets its contract: the verdict is put after the rest. Assumes nothing.
use native.Mathlib.Omega.{arith}
use Rattle.wording.specs.Events.{whole_text}
use Rattle.wording.proofs.Puts.{put_within, put_named, put_then, end_joined}
use Rattle.wording.proofs.events.put_whole.Goals as goal

pub returns : goal.returns
unfolding whole_text
returns c =
    let a = c.args in
    put_within
    (put_named
    (put_then c.put_end-a.ensures
    (λ _. c.put_word.ensures)
    (omega (arith, c.requires)))
    (end_joined a.line a.serial a.cycles a.plate _))
    256
    (omega arith)
