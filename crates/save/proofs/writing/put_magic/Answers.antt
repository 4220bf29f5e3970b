-- `save::writing::put_magic` meets its contract: the magic, and a byte after it. Assumes nothing.
use mathlib.Core.Path.{ap, ◌∙◌}
use mathlib.Core.List.{List, ◌++◌}
use Prim.Native.Nat.{ℕ}
use native.Mathlib.Omega.{arith}
use lib.ListN.{set}
use lib.Seq.{drop-cons}
use Rattle.save.specs.Save.{magic}
use Rattle.save.proofs.writing.put_magic.Goals as goal

pub returns : goal.returns
unfolding magic
returns c =
    let a = c.args in
    ap (λ (l : List ℕ). set l 6 a.banks) (c.put.ensures ∙ ap (λ (l : List ℕ). magic ++ l) (drop-cons a.out.now 6 0 (omega arith)))
