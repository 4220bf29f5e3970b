-- Refusal numbers: the table, row by row, and which rows each call has. Assumes nothing.
use Rattle.std.specs.Prelude.{ℕ, zero, suc, Bool, not, ◌&&◌, ◌||◌, List, [], ◌∷◌, nat_le, nat_lt}
use Rattle.laws.specs.Pick.{pick}
use Rattle.controller.specs.declared.Controller.{Controller}
use Rattle.controller.specs.declared.Refusal.{Refusal}
use Rattle.controller.specs.declared.Refusal.TheVariants.{State, Rom, Ram, Frame, Address, Room, Held}
use Rattle.timing.specs.Lent.{rom_allowed, ram_allowed, frame_allowed}
use Rattle.controller.specs.State.{cant_exist}
use Rattle.controller.specs.Outcome.{number_of}

-- a row of the table: a refusal, and whether what it is given for holds
pub record Row : Type 0 where
  pub why : Refusal
  pub holds : Bool

abbrev pub row : Refusal → Bool → Row
row why holds = record { why = why; holds = holds }

-- 1: the state record can't exist
abbrev pub no_state : Controller → Row
no_state c = row State (cant_exist c)

-- 2: ROM length is not allowed
abbrev pub no_rom : ℕ → Row
no_rom length = row Rom (not (rom_allowed length))

-- 3: RAM length is not allowed
abbrev pub no_ram : ℕ → Row
no_ram length = row Ram (not (ram_allowed length))

-- 4: image or frame store is not 16,384 bytes
abbrev pub no_frame : ℕ → Row
no_frame length = row Frame (not (frame_allowed length))

-- 5 is given when the address is outside 0000-7FFF and A000-BFFF
unfoldable pub on_cartridge : ℕ → Bool
on_cartridge a = nat_lt a 0x8000 || (nat_le 0xA000 a && nat_lt a 0xC000)

-- 5: address is outside 0000-7FFF and A000-BFFF
abbrev pub no_place : ℕ → Row
no_place address = row Address (not (on_cartridge address))

-- 7: a lent buffer is shorter than what is to be written
abbrev pub no_room : ℕ → ℕ → Row
no_room bytes length = row Room (nat_lt length bytes)

-- 10: a capture is held, running or stopped
abbrev pub some_held : Controller → Row
some_held c = row Held c.held

-- a row's number where it holds, and else the number that the rows after it give
abbrev pub before : Row → ℕ → ℕ
before r n = pick r.holds (number_of r.why) n

-- lowest number first: the number of the first row that holds; 0 where none does
unfoldable pub lowest : List Row → ℕ
lowest [] = 0
lowest (r ∷ rows) = before r (lowest rows)

-- a call that is given no number is done, and any other is refused with its number
abbrev pub judged : {O : Type 0} → ℕ → (ℕ → O) → O → O
judged zero refused done = done
judged (suc n) refused done = refused (suc n)
