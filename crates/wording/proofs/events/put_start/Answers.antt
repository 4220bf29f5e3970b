-- `wording::events::put_start` meets its contract: what it takes is put after the opening. Assumes nothing.
use borrow.Author.Rules.{rules}
use mathlib.Core.Path.{ap}
use mathlib.Core.List.{◌++◌}
use native.Mathlib.Omega.{arith}
use Rattle.wording.specs.Words.{decimal}
use Rattle.wording.specs.Keys.{start_word}
use Rattle.wording.specs.Events.{start_text, opening}
use Rattle.wording.specs.Aside.{taken_text}
use Rattle.wording.proofs.Puts.{put_within, put_named, put_after}
use Rattle.wording.proofs.events.put_start.Goals as goal

pub returns : goal.returns
unfolding start_text
returns c =
    let a = c.args in
    put_within
    (put_after (opening a.line) (start_word ++ decimal a.serial) c.put_opening-a.ensures
    (λ _. put_named c.put_taken.ensures (ap (λ r. taken_text a.image a.row r) (search rules)))
    (omega (arith, c.requires.0)))
    256
    (omega arith)
