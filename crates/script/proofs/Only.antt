-- No second outcome fits: what a piece leaves is known from what its promise sets out. Assumes nothing.
use mathlib.Core.Path.{◌≡◌, ap}
use mathlib.Core.List.{List}
use Prim.Native.Nat.{ℕ}
use Rattle.controller.specs.declared.Controller.{Controller}
use Rattle.script.specs.declared.text.Fed.{Fed}
use Rattle.script.specs.Pieces.{fed_as}

fed : (c d : Controller) (l k : List ℕ) (h i u v w x : ℕ) → c ≡ d → l ≡ k → h ≡ i → u ≡ v → w ≡ x
    → ◌≡◌ {A = Fed} (record { reader = record { line = l; held = h }; state = c; used = u; written = w }) (record { reader = record { line = k; held = i }; state = d; used = v; written = x })
fed c d l k h i u v w x p q r s t = cc

pub only_fed : (r s : Fed) (ram ram' store store' image image' out out' : List ℕ) → fed_as r ram store image out ≡ fed_as s ram' store' image' out'
    → (r ≡ s) × (ram ≡ ram') × (store ≡ store') × (image ≡ image') × (out ≡ out')
only_fed r s ram ram' store store' image image' out out' e = (
  fed _ _ _ _ _ _ _ _ _ _ (ap (λ x. x.world.state) e) (ap (λ x. x.reader.line) e) (ap (λ x. x.reader.held) e) (ap (λ x. x.used) e) (ap (λ x. x.written) e),
  ap (λ x. x.world.ram) e,
  ap (λ x. x.world.store) e,
  ap (λ x. x.world.image) e,
  ap (λ x. x.out) e,
)
