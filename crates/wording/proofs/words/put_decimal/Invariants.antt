-- The invariants of `wording::words::put_decimal`. Assumes nothing.
use mathlib.Core.Path.{◌≡◌}
use Rattle.lines.specs.Hex.{placed}
use Rattle.wording.specs.Aside.{digits_in}
use Rattle.wording.proofs.words.put_decimal.Given as goal

abbrev pub invariant-loop-k : goal.invariant-loop-k
invariant-loop-k l = placed l.out l.at (digits_in l.k l.rest) ≡ placed l.initial.out l.at (digits_in l.digits l.v)
