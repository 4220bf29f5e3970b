-- `next` of the accepted lines meets its contract: lines are passed until one is accepted. Assumes nothing.
use Rattle.std.proofs.Common.{sym, ap, length, ◌∙◌, rules}
use Rattle.salvaging.proofs.Walks.{accepted_first, accepted_later, accepted_none}
use Rattle.salvaging.proofs.place.AcceptedIterator.next.Goals as goal

pub returns-then-is_accepted-clause-steps : goal.returns-then-is_accepted-clause-steps
returns-then-is_accepted-clause-steps c =
    sym c.loop-line.invariant ∙ accepted_first c.in-Some.ensures.steps (sym c.is_accepted.ensures ∙ c.if-is_accepted.true)

pub returns-then-is_accepted-clause-goes : goal.returns-then-is_accepted-clause-goes
returns-then-is_accepted-clause-goes c =
    let l = ap length (sym c.loop-line.invariant ∙ accepted_first c.in-Some.ensures.steps (sym c.is_accepted.ensures ∙ c.if-is_accepted.true)) in
    search rules

pub loop-line-preserved : goal.loop-line-preserved
loop-line-preserved c = sym (accepted_later c.in-Some.ensures.steps (sym c.is_accepted.ensures ∙ c.if-is_accepted.false)) ∙ c.loop-line.invariant

pub returns-clause-steps : goal.returns-clause-steps
returns-clause-steps c =
    let e = c.in_default.ensures.steps in
    (sym c.loop-line.invariant ∙ accepted_none e.0, accepted_none e.1)
