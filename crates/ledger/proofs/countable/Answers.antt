-- `ledger::countable` meets its contract: all of a piece, or as much as a value counts. Assumes nothing.
use mathlib.Core.Path.{◌≡◌, refl, sym, ◌∙◌}
use native.Mathlib.Omega.{arith}
use lib.Seq.{take_all, take-length}
use lib.ListN.{length, take}
use Rattle.laws.proofs.Order.{split}
use Rattle.ledger.proofs.countable.Goals as goal

pub returns : goal.returns
returns c =
    let piece = c.args.piece.now in
    let n = c.min.result in
    split (length piece) 4294967295
    (λ h. let e : n ≡ length piece = omega arith in (rw e (take-length piece ∙ sym (take_all 4294967295 piece (omega arith))), omega arith, omega arith))
    (λ h. let e : n ≡ 4294967295 = omega arith in (rw e refl, omega arith, omega arith))
