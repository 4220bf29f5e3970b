-- `strips::add_column` meets its contract: the tiles below t have a bit more. Assumes nothing.
use Rattle.std.proofs.Common.{ℕ, ◌<◌, arith}
use Rattle.strips.proofs.Columns.{moved_none, moved_end, column_room, column_next, weight_of}
use Rattle.strips.proofs.add_column.Goals as goal

pub loop-t-init : goal.loop-t-init
loop-t-init g c = (moved_none _ _ c.requires.low_value.0, moved_none _ _ c.requires.low_value.1)

pub overflow_add-low : goal.overflow_add-low
overflow_add-low g c =
    let l = c.loop-t in
    let row = c.args.row.now in
    let f = g.R.Turned.low row in
    let two : (p : ℕ) → f p < 2 = λ p. (g.met.R.Turned.bits row p).0 in
    let b = c.requires.b_bound in
    omega (arith, column_room f two b (weight_of c.args.b b) l.invariant.0 (omega arith) c.weigh-l.ensures.0)

pub overflow_add-high : goal.overflow_add-high
overflow_add-high g c =
    let l = c.loop-t in
    let row = c.args.row.now in
    let f = g.R.Turned.high row in
    let two : (p : ℕ) → f p < 2 = λ p. (g.met.R.Turned.bits row p).1 in
    let b = c.requires.b_bound in
    omega (arith, column_room f two b (weight_of c.args.b b) l.invariant.1 (omega arith) c.weigh-l.ensures.1)

pub loop-t-preserved : goal.loop-t-preserved
loop-t-preserved g c =
    let l = c.loop-t in
    let row = c.args.row.now in
    let low = g.R.Turned.low row in
    let high = g.R.Turned.high row in
    let low_two : (p : ℕ) → low p < 2 = λ p. (g.met.R.Turned.bits row p).0 in
    let high_two : (p : ℕ) → high p < 2 = λ p. (g.met.R.Turned.bits row p).1 in
    let b = c.requires.b_bound in
    let w = weight_of c.args.b b in (
      column_next low low_two b w l.invariant.0 (omega arith) c.weigh-l.ensures.0,
      column_next high high_two b w l.invariant.1 (omega arith) c.weigh-l.ensures.1,
    )

pub returns : goal.returns
returns g c =
    let l = c.loop-t in
    (moved_end _ _ l.invariant.0 (omega arith), moved_end _ _ l.invariant.1 (omega arith))
