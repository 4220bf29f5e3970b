-- How an exported function's answer is packed. Assumes nothing.
use Rattle.std.specs.Prelude.{ℕ, ◌+◌, ◌*◌, ◌/◌, ◌%◌}

-- number × 2^32 + value
unfoldable pub packed : ℕ → ℕ → ℕ
packed number value = number * 4294967296 + value

-- an answer's refusal number, and its value
abbrev pub number_in : ℕ → ℕ
number_in answer = answer / 4294967296

abbrev pub value_in : ℕ → ℕ
value_in answer = answer % 4294967296
