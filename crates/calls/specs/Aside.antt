-- Aside: devices of contracts between functions. Nothing here need be believed: every use of it is tied by a proof to the definitions beside it.
-- An outcome with its state as bytes. Assumes nothing.
use Rattle.std.specs.Prelude.{List, ℕ}
use Rattle.controller.specs.Outcome.{Outcome}
use Rattle.layout.specs.Layout.{encoded}

-- refusal number, value, and the bytes left: state, RAM, frame store
pub record Effect : Type 0 where
  pub number : ℕ
  pub value : ℕ
  pub state : List ℕ
  pub ram : List ℕ
  pub store : List ℕ

abbrev pub effect : ℕ → ℕ → List ℕ → List ℕ → List ℕ → Effect
effect n v s ram store = record { number = n; value = v; state = s; ram = ram; store = store }

abbrev pub in_bytes : Outcome → Effect
in_bytes o = effect o.number o.value (encoded o.state) o.ram o.store
