-- What each exported function answers and leaves: the controller's meaning, with the state as bytes. Assumes nothing.
use Rattle.std.specs.Prelude.{Bool, not, List, [], ℕ, ◌+◌, ◌*◌, eqb, ltb, length}
use Rattle.laws.specs.Pick.{pick}
use Rattle.controller.specs.State.{reset_state}
use Rattle.controller.specs.Outcome.{Inspection}
use Rattle.cartridge.specs.Calls.{read_means, write_means}
use Rattle.capture.specs.Calls.{tick_means}
use Rattle.controller.specs.Inspect.{inspect_means}
use Rattle.std.specs.declared.option.Option.{Option}
use Rattle.std.specs.Prelude.{Some, None}
use Rattle.desk.specs.Choice.{choose_means}
use Rattle.layout.specs.Layout.{encoded, is_record, decoded}
use Rattle.answers.specs.Packed.{packed}
use Rattle.answers.specs.Called.{Called, called, as_bytes, no_record, unread}

-- reset needs no record, only its 121 bytes
unfoldable pub reset_bytes : List ℕ → Called
reset_bytes s = pick (eqb (length s) 121) (called (packed 0 0) (encoded reset_state) [] []) (unread s [] [])

-- bytes that are no record are refused before all others
unfoldable pub read_bytes : List ℕ → List ℕ → List ℕ → ℕ → Called
read_bytes s rom ram a = pick (is_record s) (as_bytes (read_means (decoded s) rom ram a)) (unread s ram [])

unfoldable pub write_bytes : List ℕ → List ℕ → List ℕ → List ℕ → ℕ → ℕ → Called
write_bytes s ram store image a v =
    pick (is_record s) (as_bytes (write_means (decoded s) ram store image a v)) (unread s ram store)

unfoldable pub tick_bytes : List ℕ → List ℕ → List ℕ → ℕ → Called
tick_bytes s ram store n = pick (is_record s) (as_bytes (tick_means (decoded s) ram store n)) (unread s ram store)

-- `plain` 0 with dithering, any other without
abbrev pub plain_in : ℕ → Bool
plain_in plain = not (eqb plain 0)

-- an exposure above FFFF is unnamed
unfoldable pub exposure_in : ℕ → Option ℕ
exposure_in n = pick (ltb 0xFFFF n) None (Some n)

-- a choice is lent the state alone
unfoldable pub choose_bytes : List ℕ → ℕ → ℕ → ℕ → ℕ → Called
choose_bytes s light level plain exposure =
    pick (is_record s) (as_bytes (choose_means (decoded s) light level (plain_in plain) (exposure_in exposure))) (unread s [] [])

-- an element of the matrix as a value: 0 where there is none, else 0x100 + 16 × row + column
abbrev pub element_value : Inspection → ℕ
element_value i = pick i.found (0x100 + 16 * i.row + i.column) 0

abbrev pub inspected : Inspection → ℕ
inspected i = packed i.number (element_value i)

unfoldable pub inspect_bytes : List ℕ → ℕ
inspect_bytes s = pick (is_record s) (inspected (inspect_means (decoded s))) no_record
