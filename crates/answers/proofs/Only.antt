-- A packed answer gives back its number and its value. Assumes nothing.
use mathlib.Core.Path.{◌≡◌, refl, sym, ap, ◌∙◌}
use mathlib.Core.List.{List}
use Prim.Native.Nat.{ℕ, zero, suc, ◌/◌, ◌%◌, ◌<◌}
use native.Mathlib.Omega.{arith}
use Rattle.controller.specs.declared.Controller.{Controller}
use Rattle.controller.specs.Outcome.{Outcome, refusal}
use Rattle.controller.specs.Table.{Row, lowest}
use Rattle.controller.proofs.Refusals.{Refuses, in_outcome}
use Rattle.shades.specs.Shades.{Exported, exported}
use Rattle.answers.specs.Packed.{packed}
use Rattle.shades.proofs.Outputs.{in_exported}

-- the number stands above 2^32, and the value below
pub record Says (answer n v : ℕ) : Type 0 where
  pub number : answer / 4294967296 ≡ n
  pub value : answer % 4294967296 ≡ v

pub packed_says : (number value : ℕ) → value < 4294967296 → Says (packed number value) number value
unfolding packed
packed_says number value h = record { number = omega arith; value = omega arith }

pub only_packed : (m n v w : ℕ) → v < 4294967296 → w < 4294967296 → packed m v ≡ packed n w → (m ≡ n) × (v ≡ w)
only_packed m n v w hv hw e =
    let p = packed_says m v hv in
    let q = packed_says n w hw in
    (sym p.number ∙ ap (λ k. k / 4294967296) e ∙ q.number, sym p.value ∙ ap (λ k. k % 4294967296) e ∙ q.value)

-- a refusal's value is 0, so a call's value is below 2^32 where that of what is done is
pub small_of : {O : Type 0} (value : O → ℕ) {rows : List Row} {number : O → ℕ} {refused : ℕ → O} {o done : O} → Refuses rows number refused o done → ((n : ℕ) → value (refused n) ≡ 0) → value done < 4294967296 → value o < 4294967296
small_of value {rows} {number} {refused} {o} {done} r none h = by_number (lowest rows) refl
  where
    by_number : (n : ℕ) → lowest rows ≡ n → value o < 4294967296
    by_number zero e = rw (r.does e) h
    by_number (suc k) e = rw (r.kept k e, none (suc k)) (omega arith)

pub small : {rows : List Row} {c : Controller} {ram store : List ℕ} {o done : Outcome} → Refuses rows in_outcome (refusal c ram store) o done → done.value < 4294967296 → o.value < 4294967296
small r = small_of (λ (o : Outcome). o.value) r (λ n. refl)

-- so for bytes written into a lent buffer
pub written_small : {rows : List Row} {out : List ℕ} {m done : Exported} → Refuses rows in_exported (λ n. exported n 0 out) m done → done.value < 4294967296 → m.value < 4294967296
written_small r = small_of (λ (m : Exported). m.value) r (λ n. refl)
