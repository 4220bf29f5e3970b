-- What the registers taken ask of every pixel. Assumes nothing.
use Rattle.std.specs.Prelude.{Bool, List, [], ◌∷◌, ℕ, ◌+◌, ◌*◌, ◌/◌, ◌%◌, get_or}
use Rattle.laws.specs.Bits.{is_set}
use Rattle.lighting.specs.declared.Setting.{Setting}

-- exposure = A002 × 256 + A003
unfoldable pub exposure_of : List ℕ → ℕ
exposure_of regs = get_or regs 2 0 * 256 + get_or regs 3 0

-- bit 3 of A004
unfoldable pub inverted_of : List ℕ → Bool
inverted_of regs = is_set (get_or regs 4 0) 3

-- Mode = 8 × N + 2 × VH + E3 (N: bit 7 of A001; VH: bits 6-5 of A001; E3: bit 7 of A004)
unfoldable pub mode_of : List ℕ → ℕ
mode_of regs = 8 * (get_or regs 1 0 / 128 % 2) + 2 * (get_or regs 1 0 / 32 % 4) + get_or regs 4 0 / 128 % 2

-- α = 50, 75, 100, 125, 200, 300, 400, 500 per cent, here in quarters
abbrev pub alphas : List ℕ
alphas = 2 ∷ 3 ∷ 4 ∷ 5 ∷ 8 ∷ 12 ∷ 16 ∷ 20 ∷ []

-- by bits 6-4 of A004
unfoldable pub quarters_of : List ℕ → ℕ
quarters_of regs = get_or alphas (get_or regs 4 0 / 16 % 8) 0

-- bits 2-1 of taken register 0
unfoldable pub kind_of : List ℕ → ℕ
kind_of regs = get_or regs 0 0 / 2 % 4

-- all of it
unfoldable pub setting_of : List ℕ → Setting
setting_of regs = record {
  exposure = exposure_of regs;
  inverted = inverted_of regs;
  mode = mode_of regs;
  quarters = quarters_of regs;
  kind = kind_of regs;
}
