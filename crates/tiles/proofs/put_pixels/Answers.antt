-- `tiles::put_pixels` meets its contract: whole rows are the pixels of theirs. Assumes nothing.
use Rattle.std.proofs.Common.{ℕ, ◌<◌, Fits, w8, ◌≡◌, sym, ap, ◌∙◌, ◌+◌, ◌-◌, ◌*◌, ◌/◌, get_or, arith, rules}
use Rattle.lighting.specs.Light.{byte_at}
use Rattle.tiles.specs.Aside.{pixels}
use Rattle.tiles.proofs.Run.{pixels_none, pixels_join}
use Rattle.tiles.proofs.Pairs.{pairs_pixels}
use Rattle.tiles.proofs.put_pixels.Goals as goal

pub returns-then-first-end : goal.returns-then-first-end
returns-then-first-end c =
    let a = c.args in
    let lit = byte_at a.store.now in
    let regs = a.regs.now in
    let first = c.div_ceil-first.result in
    let end = a.to / 128 in
    let before = c.put_parts.new.ram in
    let rows = c.put_rows.new.out in
    let bytes : (i : ℕ) → get_or before i 0 < 256 = λ i. let k : Fits w8 (get_or before i 0) = search rules in omega arith in
    let e : 8 * (16 * first) ≡ 128 * first = omega arith in
    let f : 8 * (16 * first + 16 * (end - first)) ≡ 128 * end = omega arith in
    let all : rows ≡ pixels lit regs (128 * first) (128 * end) before =
    c.put_rows.ensures ∙ rw (e, f) at (pairs_pixels lit regs before (omega arith) bytes (16 * first) (16 * (end - first)) (omega arith)) in
    let two : rows ≡ pixels lit regs a.from (128 * end) a.ram.now =
    all
    ∙ ap (pixels lit regs (128 * first) (128 * end)) c.put_parts.ensures
    ∙ pixels_join lit regs a.from (128 * first) (128 * end) a.ram.now (omega arith) (omega arith) in
    c.put_parts-then-first-end.ensures
    ∙ ap (pixels lit regs (128 * end) a.to) two
    ∙ pixels_join lit regs a.from (128 * end) a.to a.ram.now (omega arith) (omega arith)

pub returns-else-from-to : goal.returns-else-from-to
returns-else-from-to c =
    let e : c.args.from ≡ c.args.to = omega arith in
    rw e (sym (pixels_none _ _ _ _))
