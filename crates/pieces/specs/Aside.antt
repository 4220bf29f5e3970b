-- Aside: devices of contracts between functions. Nothing here need be believed: every use of it is tied by a proof to the definitions beside it.
-- What the functions promise of a piece and of the end. Assumes nothing.
use Rattle.std.specs.Prelude.{List, [], ℕ}
use Rattle.laws.specs.Pick.{pick}
use Rattle.controller.specs.declared.Controller.{Controller}
use Rattle.session.specs.Session.{World}
use Rattle.wording.specs.Events.{held_text}
use Rattle.pieces.specs.Pieces.{Standing}

-- where an audit stands
abbrev pub standing : World → List ℕ → List ℕ → List ℕ → ℕ → Standing
standing w b line out used = record { world = w; book = b; line = line; out = out; used = used }

-- a capture that is held at the end, on a line
abbrev pub held_saying : ℕ → Controller → List ℕ
held_saying n c = pick c.held (held_text n c.started c.elapsed.0) []
