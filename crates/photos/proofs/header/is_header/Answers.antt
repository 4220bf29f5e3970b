-- `photos::header::is_header` meets its contract: each part of it takes the text on to the next, or nothing is read. Assumes nothing.
use mathlib.Core.Path.{◌≡◌, sym, ◌∙◌}
use mathlib.Core.Bool.{Bool, true}
use mathlib.Core.List.{List}
use Prim.Native.Nat.{ℕ, ◌+◌, ◌<◌}
use native.Mathlib.Omega.{arith}
use lib.ListN.{get_or}
use Rattle.photos.specs.Aside.{goes, is_header, Begins, Has, Given, Enters}
use Rattle.photos.specs.Header.{parts}
use Rattle.photos.proofs.Reader.{width_given, height_given, most_given, gaps}
use Rattle.photos.proofs.header.is_header.Goals as goal

-- where the text has been read to: the place of the first number, and of the next after one

first : (text : List ℕ) (p : ℕ) {r : Bool} → Begins text r → r ≡ true → Enters text 2 p → is_header text ≡ goes text p 1 3
first text p b y e = b.yes y ∙ e 2 (omega arith) gaps.0

next : (text : List ℕ) (p q n : ℕ) {x y z : ℕ} {r : Bool} → is_header text ≡ goes text p 1 n → Has text p x y z r → r ≡ true → Given n x y z → Enters text (p + 3) q → n + 3 < 14 → get_or parts (n + 3) 0 ≡ 0 → is_header text ≡ goes text q 1 (n + 3 + 1)
next text p q n h s t g e l z = h ∙ s.yes t n g ∙ e (n + 3) l z

pub returns-then-not-has : goal.returns-then-not-has
returns-then-not-has c =
    let text = c.args.text.now in
    let width = first text c.after_gap-width.result c.begins.ensures c.if-not-begins.false c.after_gap-width.ensures.1 in
    sym (width ∙ c.has.ensures.no c.if-not-has.true 3 width_given)

pub returns-then-not-has-2 : goal.returns-then-not-has-2
returns-then-not-has-2 c =
    let text = c.args.text.now in
    let width = first text c.after_gap-width.result c.begins.ensures c.if-not-begins.false c.after_gap-width.ensures.1 in
    let height = next text c.after_gap-width.result c.after_gap-height.result 3 width c.has.ensures c.if-not-has.false width_given c.after_gap-height.ensures.1 (omega arith) gaps.1 in
    sym (height ∙ c.has-2.ensures.no c.if-not-has-2.true 7 height_given)

pub returns-then-not-has-3 : goal.returns-then-not-has-3
returns-then-not-has-3 c =
    let text = c.args.text.now in
    let width = first text c.after_gap-width.result c.begins.ensures c.if-not-begins.false c.after_gap-width.ensures.1 in
    let height = next text c.after_gap-width.result c.after_gap-height.result 3 width c.has.ensures c.if-not-has.false width_given c.after_gap-height.ensures.1 (omega arith) gaps.1 in
    let most = next text c.after_gap-height.result c.after_gap-most.result 7 height c.has-2.ensures c.if-not-has-2.false height_given c.after_gap-most.ensures.1 (omega arith) gaps.2 in
    sym (most ∙ c.has-3.ensures.no c.if-not-has-3.true 11 most_given)

pub returns : goal.returns
returns c =
    let text = c.args.text.now in
    let width = first text c.after_gap-width.result c.begins.ensures c.if-not-begins.false c.after_gap-width.ensures.1 in
    let height = next text c.after_gap-width.result c.after_gap-height.result 3 width c.has.ensures c.if-not-has.false width_given c.after_gap-height.ensures.1 (omega arith) gaps.1 in
    let most = next text c.after_gap-height.result c.after_gap-most.result 7 height c.has-2.ensures c.if-not-has-2.false height_given c.after_gap-most.ensures.1 (omega arith) gaps.2 in
    sym (most ∙ c.has-3.ensures.yes c.if-not-has-3.false 11 most_given ∙ c.ends.ensures)
