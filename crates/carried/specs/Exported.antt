-- Exported calls one after the other: each is lent the state's bytes, the RAM and the frame store as the last one left them. Assumes nothing.
use Rattle.std.specs.Prelude.{Bool, true, ◌&&◌, List, [], ◌∷◌, ℕ, ◌+◌, ltb}
use Rattle.controller.specs.State.{reset_state}
use Rattle.layout.specs.Layout.{encoded}
use Rattle.answers.specs.Packed.{value_in}
use Rattle.history.specs.History as history
use Rattle.history.specs.History.{Call}
use Rattle.embed.specs.Exports.{plain_in, exposure_in, reset_bytes, read_bytes, write_bytes, tick_bytes, inspect_bytes, choose_bytes}
use Rattle.images.specs.Images.{place_bytes}

-- what is handed on from call to call
pub record Kept : Type 0 where
  pub state : List ℕ
  pub ram : List ℕ
  pub store : List ℕ

-- a call of an exported function, with what else it is lent or given; of the others only that which restores a save writes to one of the three, and
-- it begins anew
pub data Export : Type 0 where
  reset : Export
  read : (rom : List ℕ) (address : ℕ) → Export
  write : (image : List ℕ) (address byte : ℕ) → Export
  tick : (cycles : ℕ) → Export
  inspect : Export
  choose : (light level plain exposure : ℕ) → Export
  place : (file : List ℕ) → Export

-- the controller's call that it asks for
unfoldable pub call_of : Export → Call
call_of reset = history.reset
call_of (read rom a) = history.read rom a
call_of (write image a v) = history.write image a v
call_of (tick n) = history.tick n
call_of inspect = history.inspect
call_of (choose light level plain exposure) = history.choose light level (plain_in plain) (exposure_in exposure)
call_of (place file) = history.place file

-- the bytes of reset, with any RAM and frame store
abbrev pub at_reset : List ℕ → List ℕ → Kept
at_reset ram store = record { state = encoded reset_state; ram = ram; store = store }

-- what a call hands on: what it leaves of the bytes that it is lent, refused or not, and the others as they were
unfoldable pub hands : Kept → Export → Kept
hands b reset = record { state = (reset_bytes b.state).state; ram = b.ram; store = b.store }
hands b (read rom a) = record {
  state = (read_bytes b.state rom b.ram a).state;
  ram = (read_bytes b.state rom b.ram a).ram;
  store = b.store;
}
hands b (write image a v) = record {
  state = (write_bytes b.state b.ram b.store image a v).state;
  ram = (write_bytes b.state b.ram b.store image a v).ram;
  store = (write_bytes b.state b.ram b.store image a v).store;
}
hands b (tick n) = record {
  state = (tick_bytes b.state b.ram b.store n).state;
  ram = (tick_bytes b.state b.ram b.store n).ram;
  store = (tick_bytes b.state b.ram b.store n).store;
}
hands b inspect = b
hands b (choose light level plain exposure) = record {
  state = (choose_bytes b.state light level plain exposure).state;
  ram = b.ram;
  store = b.store;
}
hands b (place file) = record {
  state = (place_bytes b.state b.ram file).state;
  ram = (place_bytes b.state b.ram file).ram;
  store = b.store;
}

-- what it answers
unfoldable pub replies : Kept → Export → ℕ
replies b reset = (reset_bytes b.state).answer
replies b (read rom a) = (read_bytes b.state rom b.ram a).answer
replies b (write image a v) = (write_bytes b.state b.ram b.store image a v).answer
replies b (tick n) = (tick_bytes b.state b.ram b.store n).answer
replies b inspect = inspect_bytes b.state
replies b (choose light level plain exposure) = (choose_bytes b.state light level plain exposure).answer
replies b (place file) = (place_bytes b.state b.ram file).answer

-- the count of running cycles that a call returned: a tick's value
unfoldable pub count_in : Kept → Export → ℕ
count_in b reset = 0
count_in b (read rom a) = 0
count_in b (write image a v) = 0
count_in b (tick n) = value_in (replies b (tick n))
count_in b inspect = 0
count_in b (choose light level plain exposure) = 0
count_in b (place file) = 0

-- what a list of calls hands on, the first call first
unfoldable pub hands_on : Kept → List Export → Kept
hands_on b [] = b
hands_on b (c ∷ cs) = hands_on (hands b c) cs

-- the counts that a list of calls returned, added up
unfoldable pub counted : Kept → List Export → ℕ
counted b [] = 0
counted b (c ∷ cs) = count_in b c + counted (hands b c) cs

-- a call's numbers are of the widths that the function takes: a byte of 8 bits, cycles of 32
unfoldable pub fits : Export → Bool
fits reset = true
fits (read rom a) = true
fits (write image a v) = ltb v 256
fits (tick n) = ltb n 4294967296
fits inspect = true
fits (choose light level plain exposure) = true
fits (place file) = true

unfoldable pub all_fit : List Export → Bool
all_fit [] = true
all_fit (c ∷ cs) = fits c && all_fit cs
