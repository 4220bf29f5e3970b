-- `shades::put_shades` meets its contract: a shade is 1 for its low bit and 2 for its high bit. Assumes nothing.
use mathlib.Core.Path.{◌∙◌}
use Rattle.shades.proofs.Tones.{tones_shades}
use Rattle.shades.proofs.put_shades.Goals as goal

pub returns : goal.returns
returns c = c.put_tones.ensures ∙ tones_shades _
