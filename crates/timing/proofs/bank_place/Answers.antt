-- `timing::bank_place` meets its contract: the bits below a count with one bit set are the rest by it. Assumes nothing.
use Rattle.std.proofs.Common.{ap, ◌*◌}
use Rattle.timing.proofs.Lent.{one_mask}
use Rattle.timing.proofs.bank_place.Goals as goal

pub returns : goal.returns
returns c = rw c.from.ensures (ap (λ n. n * c.args.size) (one_mask c.args.number _ c.requires.1))
