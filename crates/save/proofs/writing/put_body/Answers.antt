-- `save::writing::put_body` meets its contract: four parts, one after the other. Assumes nothing.
use mathlib.Core.Path.{◌≡◌, refl, ap, ◌∙◌}
use mathlib.Core.List.{List, [], ◌∷◌, ◌++◌}
use Prim.Native.Nat.{ℕ, ◌+◌, ◌/◌}
use native.Mathlib.Omega.{arith}
use lib.ListN.{length, drop}
use Rattle.save.specs.Save.{magic}
use Rattle.save.proofs.Put.{Put, put_next}
use Rattle.save.proofs.Saved.{body_joined}
use Rattle.save.proofs.writing.put_body.Goals as goal

-- the magic and the banks

front : (b : ℕ) (o o' : List ℕ) → o' ≡ (magic ++ (b ∷ [])) ++ drop 7 o → Put o (magic ++ (b ∷ [])) 7 o'
unfolding magic
front b o o' e = record { long = refl; same = e }

pub returns : goal.returns
returns c =
    let a = c.args in
    let s = a.state.now in
    let ram = a.ram.now in
    let store = a.store.now in
    let o = a.out.now in
    let first = front (length ram / 8192) o _ c.put_magic.ensures in
    let second = put_next first s 128 (omega (arith, c.requires)) c.put.ensures in
    let third = put_next second ram (128 + length ram) refl c.put-2.ensures in
    let fourth = put_next third store (16512 + length ram) (omega (arith, c.requires)) c.put-3.ensures in
    fourth.same ∙ ap (λ (l : List ℕ). l ++ drop (16512 + length ram) o) (body_joined s ram store)
