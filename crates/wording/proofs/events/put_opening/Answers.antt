-- `wording::events::put_opening` meets its contract: line and serial are put one after the other. Assumes nothing.
use mathlib.Core.Path.{ap}
use mathlib.Core.List.{◌++◌}
use native.Mathlib.Omega.{arith}
use Rattle.wording.specs.Words.{decimal}
use Rattle.wording.proofs.Puts.{put_within, put_named, put_then}
use Rattle.wording.proofs.events.put_opening.Goals as goal

pub returns : goal.returns
returns c =
    put_within
    (put_then c.put_count-a.ensures
    (λ _. put_named c.put_count.ensures (ap (λ n. c.args.word.now ++ decimal n) c.from.ensures))
    (omega (arith, c.requires)))
    _
    (omega arith)
