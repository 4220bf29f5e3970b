-- `next` of the lines of a script meets its contract: the first line, and what is left past its LF. Assumes nothing.
use Rattle.std.proofs.Common.{◌≡◌, [], length, ap, arith, rules}
use Rattle.script.specs.Text.{lines_of}
use Rattle.salvaging.proofs.Walks.{none_left, ends_here, ends_later, ends_there, line_taken, last_taken}
use Rattle.salvaging.proofs.place.LinesIterator.next.Goals as goal

pub returns-then-is_empty-clause-steps : goal.returns-then-is_empty-clause-steps
returns-then-is_empty-clause-steps c =
    let e : lines_of c.args.self.now.0.now ≡ [] = none_left c.args.self.now.0.now 0 (grind arith) in
    (e, e)

pub returns-then-script-end-eq10-clause-steps : goal.returns-then-script-end-eq10-clause-steps
returns-then-script-end-eq10-clause-steps c =
    let t = c.args.self.now.0.now in
    let l = c.loop-end in
    let h = ends_here t l.end c.loop-end-test.true c.if-script-end-eq10.true in
    line_taken t l.end (omega (arith, h, l.invariant.1)) c.loop-end-test.true

pub returns-then-script-end-eq10-clause-goes : goal.returns-then-script-end-eq10-clause-goes
returns-then-script-end-eq10-clause-goes c =
    let t = c.args.self.now.0.now in
    let l = c.loop-end in
    let h = ends_here t l.end c.loop-end-test.true c.if-script-end-eq10.true in
    let e = line_taken t l.end (omega (arith, h, l.invariant.1)) c.loop-end-test.true in
    let m = ap length e in
    search rules

pub loop-end-preserved : goal.loop-end-preserved
loop-end-preserved c =
    let t = c.args.self.now.0.now in
    let l = c.loop-end in
    let e = ends_later t l.end c.loop-end-test.true c.if-script-end-eq10.false in
    (omega arith, omega (arith, e, l.invariant.1))

pub returns-clause-steps : goal.returns-clause-steps
returns-clause-steps c =
    let t = c.args.self.now.0.now in
    let l = c.loop-end in
    let e = ends_there t l.end (omega arith) in
    last_taken t (grind arith) (omega (arith, e, l.invariant))

pub returns-clause-goes : goal.returns-clause-goes
returns-clause-goes c =
    let t = c.args.self.now.0.now in
    let l = c.loop-end in
    let h = ends_there t l.end (omega arith) in
    let e = last_taken t (grind arith) (omega (arith, h, l.invariant)) in
    let m = ap length e in
    search rules
