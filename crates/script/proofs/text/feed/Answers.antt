-- `script::text::feed` meets its contract: the invariant is `Going`: what is left from here is the whole from the start. Assumes nothing.
use borrow.Author.Rules.{rules}
use mathlib.Core.Path.{◌≡◌, refl, sym, ap, ◌∙◌}
use Prim.Native.Nat.{◌-◌, ◌≤◌}
use native.Mathlib.Omega.{arith}
use lib.ListN.{length, take}
use Rattle.layout.specs.Layout.{decoded}
use Rattle.layout.proofs.Inverse.{record_parts}
use Rattle.session.specs.Session.{world}
use Rattle.script.specs.Pieces.{reader_of, feed_means}
use Rattle.script.proofs.Feeds.{leaving, going_start, going_on, going_line, going_done, goes_on_lem, few_held, held_on_lem, begun}
use Rattle.script.proofs.Moves.{moved}
use Rattle.script.proofs.text.feed.Goals as goal

pub line_end-end-requires : goal.line_end-end-requires
line_end-end-requires c = omega arith

pub loop-bytes-init : goal.loop-bytes-init
loop-bytes-init c =
    let long : length c.args.reader.line ≡ 261 = search rules in
    let few : c.min-held.result ≤ 261 = omega arith in
    (refl, refl, refl, long, few, c.line_end-end.ensures, going_start _ _ _ _ _ (few_held _ _ few), c.bytes_of-bytes.ensures.0)

pub overflow_sub-out : goal.overflow_sub-out
overflow_sub-out c = c.loop-bytes.invariant.6.room

pub slice_bounds-end_line-end : goal.slice_bounds-end_line-end
slice_bounds-end_line-end c = sym (record_parts _ c.loop-bytes.invariant.7).long

pub slice_bounds-end_line-end-in-loop-bytes : goal.slice_bounds-end_line-end-in-loop-bytes
slice_bounds-end_line-end-in-loop-bytes c = sym c.loop-bytes.invariant.3

pub slice_bounds-end_line-count : goal.slice_bounds-end_line-count
slice_bounds-end_line-count c = c.loop-bytes.invariant.5.after

pub slice_bounds-end_line-start : goal.slice_bounds-end_line-start
slice_bounds-end_line-start c = c.loop-bytes.invariant.5.after

pub slice_bounds-end_line-end-in-loop-bytes-2 : goal.slice_bounds-end_line-end-in-loop-bytes-2
slice_bounds-end_line-end-in-loop-bytes-2 c = c.loop-bytes.invariant.5.inside

pub end_line-at-requires : goal.end_line-at-requires
end_line-at-requires c =
    let l = c.loop-bytes in
    let t = goes_on_lem c.loop-bytes.end (length c.args.piece.now) (length c.loop-bytes.out - c.loop-bytes.at) c.answered.result c.answered.ensures c.loop-bytes-test.true in
    (l.invariant.7, l.invariant.3, l.invariant.4, omega (arith, t.1))

pub slice_bounds-short_lines-end : goal.slice_bounds-short_lines-end
slice_bounds-short_lines-end c = sym (record_parts _ c.end_line-at.ensures.1).long

pub overflow_add-end : goal.overflow_add-end
overflow_add-end c = omega (arith, c, (goes_on_lem c.loop-bytes.end (length c.args.piece.now) (length c.loop-bytes.out - c.loop-bytes.at) c.answered.result c.answered.ensures c.loop-bytes-test.true).0)

pub short_lines-place-requires : goal.short_lines-place-requires
short_lines-place-requires c =
    let t = goes_on_lem c.loop-bytes.end (length c.args.piece.now) (length c.loop-bytes.out - c.loop-bytes.at) c.answered.result c.answered.ensures c.loop-bytes-test.true in
    let d = c.end_line-at in
    (d.ensures.1, omega (arith, t.0), omega (arith, t.1, d.ensures.0.most, d.auto.out))

pub line_end-end-requires-in-loop-bytes : goal.line_end-end-requires-in-loop-bytes
line_end-end-requires-in-loop-bytes c = c.short_lines-place.ensures.0.inside

pub loop-bytes-smaller : goal.loop-bytes-smaller
loop-bytes-smaller c =
    let t = goes_on_lem c.loop-bytes.end (length c.args.piece.now) (length c.loop-bytes.out - c.loop-bytes.at) c.answered.result c.answered.ensures c.loop-bytes-test.true in
    omega (arith, c.line_end-end-in-loop-bytes.ensures.after, c.short_lines-place.ensures.0.onward, t.0)

pub loop-bytes-preserved : goal.loop-bytes-preserved
loop-bytes-preserved c =
    let l = c.loop-bytes in
    let t = goes_on_lem c.loop-bytes.end (length c.args.piece.now) (length c.loop-bytes.out - c.loop-bytes.at) c.answered.result c.answered.ensures c.loop-bytes-test.true in
    let d = c.end_line-at in
    let p = c.short_lines-place in
    let first = going_line _ _ _ _ _ _ _ _ _ (going_on _ _ _ _ _ _ _ _ _ _ l.invariant.6 l.invariant.5) t.0 (l.invariant.5.found t.0) (omega (arith, t.1)) _ _ _ d.ensures.0 d.auto.out in (
      p.auto.ram ∙ d.auto.ram ∙ l.invariant.0,
      p.auto.store ∙ d.auto.store ∙ l.invariant.1,
      p.auto.image ∙ d.auto.image ∙ l.invariant.2,
      d.auto.line ∙ l.invariant.3,
      omega arith,
      c.line_end-end-in-loop-bytes.ensures,
      moved _ _ _ _ p.ensures.0.lines first,
      p.ensures.1,
    )

pub slice_bounds-hold-end : goal.slice_bounds-hold-end
slice_bounds-hold-end c = sym c.loop-bytes.invariant.3

pub slice_bounds-hold-count : goal.slice_bounds-hold-count
slice_bounds-hold-count c = c.loop-bytes.invariant.5.after

pub slice_bounds-hold-start : goal.slice_bounds-hold-start
slice_bounds-hold-start c = c.loop-bytes.invariant.5.after

pub slice_bounds-hold-end-2 : goal.slice_bounds-hold-end-2
slice_bounds-hold-end-2 c = c.loop-bytes.invariant.5.inside

pub hold-held-requires : goal.hold-held-requires
hold-held-requires c = (c.loop-bytes.invariant.3, c.loop-bytes.invariant.4)

pub holding-rest-requires : goal.holding-rest-requires
holding-rest-requires c = c.hold-held.ensures.2

pub slice_bounds-decode-end : goal.slice_bounds-decode-end
slice_bounds-decode-end c = sym (record_parts _ c.loop-bytes.invariant.7).long

pub decode-next-requires : goal.decode-next-requires
decode-next-requires c = c.loop-bytes.invariant.7

pub returns : goal.returns
returns c =
    let a = c.args in
    let l = c.loop-bytes in
    let h = c.hold-held in
    let kept = ap (take h.result) h.ensures.0 ∙ held_on_lem l.line l.held _ l.invariant.3 l.invariant.4 h.result h.ensures.1 in (
      ap (λ x. leaving (world x l.ram l.store l.image) l.out l.end l.at c.holding-rest.result) c.decode-next.ensures
          ∙ ap (leaving (world (decoded l.bytes) l.ram l.store l.image) l.out l.end l.at) (c.holding-rest.ensures ∙ ap reader_of kept)
          ∙ going_done _ _ _ _ _ _ _ _ _ (going_on _ _ _ _ _ _ _ _ _ _ l.invariant.6 l.invariant.5) l.invariant.5.found _ c.answered.ensures c.loop-bytes-test.false
          ∙ begun a.rom.now _ a.reader a.piece.now a.out.now _ c.min-held.ensures
          ∙ ap (λ x. feed_means a.rom.now (world x a.ram.now a.store.now a.image.now) a.reader a.piece.now a.out.now) c.bytes_of-bytes.ensures.1,
      l.invariant.5.inside,
      omega (arith, l.invariant.6.room, l.invariant.6.same),
    )
