-- What an exported function answers and leaves, in bytes. Assumes nothing.
use Rattle.std.specs.Prelude.{List, ℕ}
use Rattle.controller.specs.declared.Refusal.TheVariants.{State}
use Rattle.controller.specs.Outcome.{Outcome, number_of}
use Rattle.shades.specs.Shades.{Exported}
use Rattle.layout.specs.Layout.{encoded}
use Rattle.answers.specs.Packed.{packed}

-- an answer, and the bytes left: state, RAM, frame store; what a call is not lent is the empty list
pub record Called : Type 0 where
  pub answer : ℕ
  pub state : List ℕ
  pub ram : List ℕ
  pub store : List ℕ

abbrev pub called : ℕ → List ℕ → List ℕ → List ℕ → Called
called answer state ram store = record { answer = answer; state = state; ram = ram; store = store }

-- an outcome of the controller, with its answer packed and its state as bytes
abbrev pub as_bytes : Outcome → Called
as_bytes o = called (packed o.number o.value) (encoded o.state) o.ram o.store

-- 1: the state record can't exist, with value 0; every byte stays
abbrev pub no_record : ℕ
no_record = packed (number_of State) 0

abbrev pub unread : List ℕ → List ℕ → List ℕ → Called
unread s ram store = called no_record s ram store

-- an answer, and the bytes left of the buffer that a call fills
pub record Filled : Type 0 where
  pub answer : ℕ
  pub bytes : List ℕ

abbrev pub filled : ℕ → List ℕ → Filled
filled answer bytes = record { answer = answer; bytes = bytes }

-- so many bytes written into a lent buffer: the number and the value packed
abbrev pub as_written : Exported → Filled
as_written e = filled (packed e.number e.value) e.bytes
