-- `filters::hold` meets its contract: what std's clamp gives is what is held. Assumes nothing.
use mathlib.Core.Path.{◌∙◌}
use mir.Syntax.{w32}
use mir.Facts.{to_z-of_z}
use Rattle.laws.proofs.Signed.{got}
use Rattle.filters.proofs.Facts.{clamped}
use Rattle.filters.proofs.hold.Goals as goal

pub returns : goal.returns
returns c = got w32 c.clamp.type_inv (rw (to_z-of_z c.ranges.v) at c.clamp.ensures.value ∙ clamped c.args.v)
