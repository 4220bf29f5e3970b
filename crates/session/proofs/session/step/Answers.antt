-- `session::session::step` meets its contract: the text is put into eleven bytes that are 0. Assumes nothing.
use mathlib.Core.Path.{ap}
use native.Mathlib.Omega.{arith}
use Rattle.session.specs.Session.{world, step_of}
use Rattle.session.proofs.Steps.{said_back}
use Rattle.session.proofs.session.step.Goals as goal

pub returns : goal.returns
returns c =
    let a = c.args in
    let p = c.line_done-length.ensures.0 in (
      said_back _ _ _ _ _ _ _ _ _ c.decode-next.ensures (ap (λ x. step_of a.rom.now (world x a.ram.now a.store.now a.image.now) a.line.now) c.bytes_of-bytes.ensures.1) p,
      omega (arith, p.most),
    )
