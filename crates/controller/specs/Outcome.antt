-- A call's whole outcome, and the paper's number and values for each case of each answer. Assumes nothing.
use Rattle.std.specs.Prelude.{ℕ, Bool, true, false, List, [], ⊤, Some, None, Ok, Err}
use Rattle.std.specs.declared.option.Option.{Option}
use Rattle.std.specs.declared.result.Result.{Result}
use Rattle.timing.specs.declared.Cycles.{Cycles}
use Rattle.controller.specs.declared.Controller.{Controller}
use Rattle.controller.specs.declared.Refusal.{Refusal}
use Rattle.controller.specs.declared.Refusal.TheVariants.{State, Rom, Ram, Frame, Address, Line, Room, File, Choice, Held, NotHeld, Script}
use Rattle.controller.specs.declared.Element.{Element}
use Rattle.controller.specs.declared.Done.{Done}

-- The numbers of the table: 1 the state record can't exist, 2 ROM length, 3 RAM length, 4 image or frame store, 5 address, 6 a script line, 7 a
-- buffer lent is too short, 8 a file, 9 a choice, 10 a capture is held, 11 no capture is held, 12 a script over 32,768 bytes
abbrev pub number_of : Refusal → ℕ
number_of State = 1
number_of Rom = 2
number_of Ram = 3
number_of Frame = 4
number_of Address = 5
number_of Line = 6
number_of Room = 7
number_of File = 8
number_of Choice = 9
number_of Held = 10
number_of NotHeld = 11
number_of Script = 12

-- what judging a call comes to, as a number: 0 where it fits
abbrev pub verdict_number : Result ⊤ Refusal → ℕ
verdict_number (Ok _) = 0
verdict_number (Err n) = number_of n

-- refusal number (0: none), value (byte or count), state, RAM, frame store; what a call is not lent is the empty list
pub record Outcome : Type 0 where
  pub number : ℕ
  pub value : ℕ
  pub state : Controller
  pub ram : List ℕ
  pub store : List ℕ

abbrev pub outcome : ℕ → ℕ → Controller → List ℕ → List ℕ → Outcome
outcome n v c ram store = record { number = n; value = v; state = c; ram = ram; store = store }

-- a refused call hands back the state given and changes no byte lent; its value is 0
abbrev pub refusal : Controller → List ℕ → List ℕ → ℕ → Outcome
refusal c ram store n = outcome n 0 c ram store

-- A refused read returns byte 00
abbrev pub read_number : Result ℕ Refusal → ℕ
read_number (Ok b) = 0
read_number (Err n) = number_of n

abbrev pub read_value : Result ℕ Refusal → ℕ
read_value (Ok b) = b
read_value (Err n) = 0

abbrev pub read_outcome : Done ℕ → List ℕ → Outcome
read_outcome r ram = outcome (read_number r.answer) (read_value r.answer) r.state ram []

-- a write returns nothing but its number
abbrev pub write_number : Result ⊤ Refusal → ℕ
write_number (Ok _) = 0
write_number (Err n) = number_of n

abbrev pub write_outcome : Done ⊤ → List ℕ → List ℕ → Outcome
write_outcome r ram store = outcome (write_number r.answer) 0 r.state ram store

-- a refused tick 0 cycles
abbrev pub tick_number : Result Cycles Refusal → ℕ
tick_number (Ok n) = 0
tick_number (Err n) = number_of n

abbrev pub tick_value : Result Cycles Refusal → ℕ
tick_value (Ok n) = n.0
tick_value (Err n) = 0

abbrev pub tick_outcome : Done Cycles → List ℕ → List ℕ → Outcome
tick_outcome r ram store = outcome (tick_number r.answer) (tick_value r.answer) r.state ram store

-- a matrix inspection: refusal number, whether there is an element, and its row and column
pub record Inspection : Type 0 where
  pub number : ℕ
  pub found : Bool
  pub row : ℕ
  pub column : ℕ

abbrev pub inspection : Result (Option Element) Refusal → Inspection
inspection (Ok (Some e)) = record { number = 0; found = true; row = e.row; column = e.column }
inspection (Ok None) = record { number = 0; found = false; row = 0; column = 0 }
inspection (Err n) = record { number = number_of n; found = false; row = 0; column = 0 }
