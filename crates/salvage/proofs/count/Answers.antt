-- `salvage::count` meets its contract: what is counted is `counted`. Assumes nothing.
use Rattle.std.proofs.Common.{◌≡◌, eqb, count_by, sym, ◌∙◌, rules}
use Rattle.salvage.proofs.Counting.{counted_by}
use Rattle.salvage.proofs.count.Goals as goal

pub returns : goal.returns
returns c =
    let e : c.count.result ≡ count_by (λ b. eqb b c.args.m) c.args.report.now = search rules in
    e ∙ sym (counted_by c.args.m c.args.report.now)
