-- `timing::all_zero` meets its contract: the bits of all registers together are 0 exactly where each register is. Assumes nothing.
use Rattle.std.proofs.Common.{rules, ◌≡◌, bit_or, ap, ◌∙◌}
use Rattle.std.specs.List.{fold}
use lib.Dec.{eqb}
use Rattle.timing.proofs.Zeros.{none_of_all}
use Rattle.timing.proofs.all_zero.Goals as goal

pub returns : goal.returns
returns c =
    let e : c.fold.result ≡ fold bit_or 0 c.args.regs.now = search rules in
    ap (λ b. eqb b 0) e ∙ none_of_all c.args.regs.now 54 c.told-regs
