-- `salvaging::twice::same_lines` meets its contract: all pairs of the two are the same. Assumes nothing.
use Rattle.std.proofs.Common.{ℕ, List, eqb, ap, ◌∙◌, rules, tests}
use Rattle.std.proofs.lemmas.Iterator.{YieldsList-from_take, YieldsList-from_zip}
use Rattle.std.proofs.lemmas.Iterator.Consumers.{YieldsList-from_first}
use Rattle.std.proofs.lemmas.Iterator.Search.{all_from_yields_List}
use lib.Pointwise.{pointwise}
use Rattle.script.specs.Text.{lines_of}
use Rattle.salvaging.specs.declared.place.Accepted.{Accepted}
use Rattle.salvaging.specs.Kept.{accepted_of}
use Rattle.salvaging.proofs.Turns.{all_same}
use Rattle.salvaging.proofs.twice.same_lines.Goals as goal

-- the accepted lines that are left
abbrev left : Accepted → List (List ℕ)
left s = accepted_of (lines_of s.0.0.now)

pub returns : goal.returns
returns c =
    let a = c.args in
    let z = c.zip.ensures in
    let take = YieldsList-from_take a.n (YieldsList-from_first (λ x. x.now) left {s = c.zip.result.a.iter} (left a.one) (ap (λ s. left s.iter) z.first ∙ ap left c.take.ensures.source)) (ap (λ s. s.n) z.first ∙ c.take.ensures.count) in
    let other = YieldsList-from_first (λ x. x.now) left {s = c.zip.result.b} (left a.other) (ap left z.second) in
    all_from_yields_List (λ p. pointwise eqb p.0 p.1) c.all.new.self _ c.all.result c.all.ensures.ran (YieldsList-from_zip take other) (λ x b q k. search (rules, tests))
    ∙ all_same a.n (left a.one) (left a.other) c.requires.0 c.requires.1
