-- A text put into a buffer: by another name of it, and none. Assumes nothing.
use mathlib.Core.Path.{◌≡◌, sym, ap, ◌∙◌}
use mathlib.Core.List.{List, []}
use Prim.Native.Nat.{ℕ, ◌+◌}
use native.Mathlib.Omega.{arith}
use lib.ListN.{length}
use Rattle.lines.specs.Hex.{placed}
use Rattle.lines.proofs.Placed.{placed_none}
use Rattle.wording.specs.Aside.{Put}

pub put_same : {out t u out' : List ℕ} {at most at' : ℕ} → t ≡ u → Put out at t most out' at' → Put out at u most out' at'
put_same {out} {at = at} e p = record { text = p.text ∙ ap (λ x. placed out at x) e; end = p.end ∙ ap (λ x. at + length x) e; few = p.few }

pub put_nothing : (out : List ℕ) (at : ℕ) → Put out at [] 256 out at
put_nothing out at = record { text = sym (placed_none out at); end = omega arith; few = omega arith }
