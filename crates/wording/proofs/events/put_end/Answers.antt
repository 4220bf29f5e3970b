-- `wording::events::put_end` meets its contract: cycles and checksum are put after the opening. Assumes nothing.
use mathlib.Core.List.{◌++◌}
use native.Mathlib.Omega.{arith}
use Rattle.wording.specs.Words.{decimal}
use Rattle.wording.specs.Keys.{end_word}
use Rattle.wording.specs.Events.{opening}
use Rattle.wording.proofs.Puts.{put_within, put_then, put_after}
use Rattle.wording.proofs.events.put_end.Goals as goal

pub returns : goal.returns
returns c =
    let a = c.args in
    put_within
    (put_after (opening a.line) (end_word ++ decimal a.serial) c.put_opening-a.ensures
    (put_then c.put_count-b.ensures
    (λ _. c.put_code.ensures))
    (omega (arith, c.requires)))
    106
    (omega arith)
