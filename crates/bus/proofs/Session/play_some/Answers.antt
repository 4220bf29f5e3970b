-- `bus::Session::play_some` meets its contract: a feed with room moves on. Assumes nothing.
use Rattle.std.proofs.Common.{ap, arith}
use Rattle.session.specs.Session.{world}
use Rattle.script.proofs.Loop.{moves_on}
use Rattle.bus.proofs.Session.play_some.Goals as goal

pub returns : goal.returns
returns g c =
    let a = c.args in
    let s = a.self.now in
    let on = moves_on s.rom.now (world s.state s.ram.now s.store.now s.image.now) s.reader a.piece.now a.out.now c.requires.0 c.requires.1 in
    (omega (arith, on, ap (λ x. x.used) c.feed-fed.ensures.0), c.feed-fed.ensures.1)
