-- No second outcome fits: what a step leaves is known from what its promise sets out. Assumes nothing.
use mathlib.Core.Path.{◌≡◌, ap}
use mathlib.Core.List.{List}
use Prim.Native.Nat.{ℕ}
use Rattle.controller.specs.declared.Controller.{Controller}
use Rattle.session.specs.declared.session.Stepped.{Stepped}
use Rattle.session.specs.Aside.{said}

stepped : (c d : Controller) (t u : List ℕ) (n m : ℕ) → c ≡ d → t ≡ u → n ≡ m
    → ◌≡◌ {A = Stepped} (record { state = c; text = t; length = n }) (record { state = d; text = u; length = m })
stepped c d t u n m p q r = cc

pub only_said : (r s : Stepped) (ram ram' store store' image image' : List ℕ) → said r ram store image ≡ said s ram' store' image'
    → (r ≡ s) × (ram ≡ ram') × (store ≡ store') × (image ≡ image')
only_said r s ram ram' store store' image image' e = (
  stepped _ _ _ _ _ _ (ap (λ x. x.world.state) e) (ap (λ x. x.text) e) (ap (λ x. x.length) e),
  ap (λ x. x.world.ram) e,
  ap (λ x. x.world.store) e,
  ap (λ x. x.world.image) e,
)
