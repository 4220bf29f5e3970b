-- Bus script: a number in digits, and a text in a buffer. Assumes nothing.
use Rattle.std.specs.Prelude.{ℕ, zero, suc, ◌+◌, ◌-◌, ◌/◌, ◌%◌, List, [], ◌∷◌, ◌++◌, length, take, drop, nat_lt}
use Rattle.laws.specs.Pick.{pick}

-- a digit's byte: 0 to 9 are 30h to 39h, A to F are 41h to 46h
unfoldable pub digit_byte : ℕ → ℕ
digit_byte d = pick (nat_lt d 10) (0x30 + d) (0x41 + (d - 10))

-- a number in n digits of upper-case hexadecimal, the highest first
unfoldable pub hex_text : ℕ → ℕ → List ℕ
hex_text zero v = []
hex_text (suc n) v = hex_text n (v / 16) ++ (digit_byte (v % 16) ∷ [])

-- a number in two digits, so many digits of a value, and LF
unfoldable pub printed : ℕ → ℕ → ℕ → List ℕ
printed number digits value = hex_text 2 number ++ (hex_text digits value ++ (0x0A ∷ []))

-- a buffer with a text put at a place
unfoldable pub placed : List ℕ → ℕ → List ℕ → List ℕ
placed out at text = take at out ++ (text ++ drop (at + length text) out)
