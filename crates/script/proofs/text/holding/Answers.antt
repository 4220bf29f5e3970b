-- `script::text::holding` meets its contract: the bytes are put in front of zeros. Assumes nothing.
use borrow.Author.Rules.{rules}
use mathlib.Core.Path.{◌≡◌, sym}
use native.Mathlib.Omega.{arith}
use lib.ListN.{length, take}
use lib.Seq.{length-take-le}
use Rattle.script.proofs.Feeds.{few_held, reader_made}
use Rattle.script.proofs.text.holding.Goals as goal

pub slice_bounds-hold-end-2 : goal.slice_bounds-hold-end-2
slice_bounds-hold-end-2 c =
    let long : length c.args.line ≡ 261 = search rules in
    sym (length-take-le _ _ (omega (arith, c.requires, long)))

pub returns : goal.returns
returns c =
    let s = c in
    let a = s.args in
    let long : length c.args.line ≡ 261 = search rules in
    reader_made (take a.held a.line) a.held c.hold.new.line (few_held a.held a.line s.requires) (sym (length-take-le _ _ (omega (arith, s.requires, long)))) c.hold.ensures.0
