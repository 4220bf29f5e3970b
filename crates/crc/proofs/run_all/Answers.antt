-- `crc::run_all` meets its contract: the pieces, and the bytes after them. Assumes nothing.
use mathlib.Core.Path.{ap, ap₂, ◌∙◌}
use native.Mathlib.Omega.{arith}
use lib.Seq.{take_all}
use Rattle.std.specs.List.{fold}
use Rattle.crc.specs.Crc.{over}
use Rattle.crc.proofs.Steps.{over_all}
use Rattle.crc.proofs.run_all.Goals as goal

pub returns : goal.returns
returns g c =
    let start = c.args.start in
    let cut = c.as_chunks in
    let l = c.loop-s in
    let pieces = l.invariant ∙ ap (fold over start) (take_all l.s-index cut.result.0.now (omega arith) ∙ cut.ensures.front) in
    over_all g.row.N start _ c.args.bytes.now (omega arith) (c.run.ensures ∙ ap₂ over pieces cut.ensures.back)
