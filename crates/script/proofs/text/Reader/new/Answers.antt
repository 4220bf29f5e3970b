-- `script::text::Reader::new` meets its contract: it computes. Assumes nothing.
use mathlib.Core.Path.{refl}
use Rattle.script.specs.Pieces.{new_reader}
use Rattle.script.proofs.text.Reader.new.Goals as goal

pub returns : goal.returns
unfolding new_reader
returns c = refl
