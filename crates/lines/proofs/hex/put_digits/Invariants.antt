-- The invariants of `lines::hex::put_digits`. Assumes nothing.
use Rattle.std.proofs.Common.{◌≡◌}
use Rattle.lines.specs.Hex.{placed, hex_text}
use Rattle.lines.proofs.hex.put_digits.Given as goal

abbrev pub invariant-loop-k : goal.invariant-loop-k
invariant-loop-k l = placed l.out l.at (hex_text l.k l.v) ≡ placed l.initial.out l.at (hex_text l.n l.value)
