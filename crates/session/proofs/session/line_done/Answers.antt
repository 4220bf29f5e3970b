-- `session::session::line_done` meets its contract: the step's world from `obey`, its text put by `put_answer`. Assumes nothing.
use mathlib.Core.Path.{ap, ◌∙◌}
use Prim.Native.Nat.{◌+◌}
use lib.ListN.{length}
use Rattle.lines.specs.Hex.{placed}
use Rattle.session.proofs.session.line_done.Goals as goal

pub returns : goal.returns
returns c =
    let a = c.args in
    let o = c.obey-answer.ensures in
    let p = c.put_answer.ensures in
    let t = ap (λ s. s.text) o.0 in
    (record { world = ap (λ s. s.world) o.0; text = p.0 ∙ ap (placed a.out.now a.at) t; end = p.1 ∙ ap (λ x. a.at + length x) t; most = p.2 }, o.1)
