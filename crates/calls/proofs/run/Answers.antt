-- `calls::run` meets its contract: what its cycles come to, put in the bytes. Assumes nothing.
use mathlib.Core.Path.{sym, ◌∙◌}
use Rattle.layout.specs.Layout.{decoded}
use Rattle.calls.proofs.Bytes.{elapsed_at, taken_at, before_at, put_bytes_lem}
use Rattle.calls.proofs.run.Goals as goal

pub pass-passed-requires : goal.pass-passed-requires
pass-passed-requires c =
    let at = c.args.state.now in
    (before_at at _ _ c.four_at.ensures c.taken.ensures c.requires.2, c.requires.3)

pub returns : goal.returns
returns c =
    let at = c.args.state.now in
    put_bytes_lem c.leave.ensures (c.pass-passed.ensures (decoded at) c.requires.1 (elapsed_at at ∙ sym c.four_at.ensures) (taken_at at ∙ sym c.taken.ensures))
