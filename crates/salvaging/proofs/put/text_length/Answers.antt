-- `salvaging::put::text_length` meets its contract: the sum is over the lines that are put. Assumes nothing.
use Rattle.std.proofs.Common.{◌+◌, ◌<◌, ◌^◌, Bor, ℕ, List, map, sum, ap, ◌∙◌, length, take, arith, rules}
use Rattle.std.proofs.lemmas.Iterator.{YieldsList-from_take, YieldsList-from_map}
use Rattle.std.proofs.lemmas.Iterator.Consumers.{YieldsList-from_first, sum_from_yields_List, fits_from_yields_list}
use Rattle.script.specs.Text.{lines_of}
use Rattle.salvaging.specs.declared.place.Accepted.{Accepted}
use Rattle.salvaging.specs.Kept.{accepted_of}
use Rattle.salvaging.proofs.Puts.{summed}
use Rattle.salvaging.proofs.Cleaned.{text_few}
use Rattle.salvaging.proofs.put.text_length.Goals as goal

-- the accepted lines that are left
abbrev left : Accepted → List (List ℕ)
left s = accepted_of (lines_of s.0.0.now)

pub sum-requires-clause-fits : goal.sum-requires-clause-fits
sum-requires-clause-fits c =
    let a = c.args in
    let script = a.script.text.now in
    let lines = accepted_of (lines_of script) in
    let m = c.map.ensures in
    let t = c.take.ensures in
    let few : sum (map (λ l. length l + 1) (take a.n lines)) < 2 ^ 64 = omega (arith, summed (take a.n lines), text_few script a.n, a.script.bound) in
    let road = YieldsList-from_take {s = c.map.result.iter} a.n (YieldsList-from_first {A = Bor (List ℕ)} (λ x. x.now) left {s = c.map.result.iter.iter} lines (ap (λ s. left s.iter) m.source ∙ ap left t.source)) (ap (λ s. s.n) m.source ∙ t.count) in
    fits_from_yields_list _ _ (YieldsList-from_map _ (λ l. length l + 1) road m.closure (λ x r q k. search rules)) few

pub returns : goal.returns
returns c =
    let a = c.args in
    let lines = accepted_of (lines_of a.script.text.now) in
    let m = c.map.ensures in
    let t = c.take.ensures in
    let road = YieldsList-from_take {s = c.map.result.iter} a.n (YieldsList-from_first {A = Bor (List ℕ)} (λ x. x.now) left {s = c.map.result.iter.iter} lines (ap (λ s. left s.iter) m.source ∙ ap left t.source)) (ap (λ s. s.n) m.source ∙ t.count) in
    sum_from_yields_List _ _ c.sum.ensures.ran (YieldsList-from_map _ (λ l. length l + 1) road m.closure (λ x r q k. search rules))
    ∙ summed (take a.n lines)
