-- `wording::events::put_mark` meets its contract: the cycles are put after the opening. Assumes nothing.
use mathlib.Core.Path.{ap}
use mathlib.Core.List.{◌++◌, append_assoc}
use native.Mathlib.Omega.{arith}
use Rattle.wording.specs.Words.{decimal}
use Rattle.wording.specs.Keys.{cycles_word}
use Rattle.wording.specs.Events.{opening, line_end}
use Rattle.wording.proofs.Puts.{put_within, put_named, put_then, put_after}
use Rattle.wording.proofs.events.put_mark.Goals as goal

pub returns : goal.returns
returns c =
    let a = c.args in
    put_within
    (put_named
    (put_after (opening a.line) (a.word.now ++ decimal a.serial) c.put_opening-a.ensures
    (put_then c.put_count-b.ensures
    (λ _. c.put_word.ensures))
    (omega (arith, c.requires.0)))
    (ap (λ t. opening a.line ++ t) (append_assoc a.word.now (decimal a.serial) (cycles_word ++ (decimal a.cycles ++ line_end)))))
    256
    (omega arith)
