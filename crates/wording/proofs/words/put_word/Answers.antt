-- `wording::words::put_word` meets its contract: the bytes from the place on are those of the word. Assumes nothing.
use mathlib.Core.Path.{◌≡◌, refl, ap, ap₂, ◌∙◌}
use mathlib.Core.List.{List, ◌++◌}
use Prim.Native.Nat.{ℕ, ◌+◌, ◌-◌}
use native.Mathlib.Omega.{arith}
use lib.ListN.{length, take, drop}
use lib.Seq.{drop-drop}
use Rattle.lines.specs.Hex.{placed}
use Rattle.wording.proofs.words.put_word.Goals as goal

pub returns : goal.returns
unfolding placed
returns c =
    let at = c.args.at in
    let out = c.args.out.now in
    let n = at + length c.args.word.now - at in
    let e : at + n ≡ at + length c.args.word.now = omega arith in
    record {
      text = ap₂ (λ (w r : List ℕ). take at out ++ (w ++ r)) c.copy_from_slice.ensures.after (drop-drop n at out ∙ ap (λ (k : ℕ). drop k out) e);
      end = refl;
      few = omega arith;
    }
