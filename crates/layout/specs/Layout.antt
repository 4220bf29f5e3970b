-- The state record as bytes, layout 3: 121 of them, numbers little-endian. Assumes nothing.
use Rattle.std.specs.Prelude.{Bool, ◌&&◌, List, [], ◌∷◌, ◌++◌, ℕ, ◌+◌, ◌*◌, ◌/◌, ◌%◌, eqb, leb, length, get_or, take, drop}
use Rattle.laws.specs.Pick.{pick}
use Rattle.controller.specs.declared.Controller.{Controller}

-- the number of the layout: bytes of another layout are no record
abbrev pub layout_number : ℕ
layout_number = 3

-- a flag: 0 or 1
abbrev pub flag : Bool → ℕ
flag b = pick b 1 0

-- a number of 32 bits, its lowest byte first
abbrev pub low_first : ℕ → List ℕ
low_first n = n % 256 ∷ n / 256 % 256 ∷ n / 65536 % 256 ∷ n / 16777216 % 256 ∷ []

-- a number of 16 bits, its lowest byte first
abbrev pub two_low_first : ℕ → List ℕ
two_low_first n = n % 256 ∷ n / 256 % 256 ∷ []

-- 5..9 elapsed cycles, 9..11 captures started, 11..13 captures that reached their end
abbrev pub counts : Controller → List ℕ
counts c = low_first c.elapsed.0 ++ (two_low_first c.started ++ two_low_first c.ended)

-- offset 0 the layout's number, 1 write enable, 2 ROM bank, 3 RAM select, 4 capture held, 5..13 the counts
abbrev pub front : Controller → List ℕ
front c = layout_number ∷ flag c.enabled ∷ c.bank ∷ c.select ∷ flag c.held ∷ counts c

-- 13..67 the registers, 67..121 the registers taken
unfoldable pub encoded : Controller → List ℕ
encoded c = front c ++ (c.registers ++ c.taken)

-- bytes that are a record: 121 of them, of this layout, and the two flags are 0 or 1
unfoldable pub is_record : List ℕ → Bool
is_record s = eqb (length s) 121 && (eqb (get_or s 0 0) layout_number && (leb (get_or s 1 0) 1 && leb (get_or s 4 0) 1))

-- four bytes from a place on as one number
unfoldable pub four_at : List ℕ → ℕ → ℕ
four_at s i = get_or s i 0 + 256 * get_or s (i + 1) 0 + 65536 * get_or s (i + 2) 0 + 16777216 * get_or s (i + 3) 0

-- two bytes from a place on as one number
abbrev pub two_at : List ℕ → ℕ → ℕ
two_at s i = get_or s i 0 + 256 * get_or s (i + 1) 0

-- 54 bytes from a place on
abbrev pub registers_at : List ℕ → ℕ → List ℕ
registers_at s i = take 54 (drop i s)

-- the record of its bytes
unfoldable pub decoded : List ℕ → Controller
decoded s = record {
  enabled = eqb (get_or s 1 0) 1;
  bank = get_or s 2 0;
  select = get_or s 3 0;
  registers = registers_at s 13;
  held = eqb (get_or s 4 0) 1;
  taken = registers_at s 67;
  elapsed = record { 0 = four_at s 5 };
  started = two_at s 9;
  ended = two_at s 11;
}
