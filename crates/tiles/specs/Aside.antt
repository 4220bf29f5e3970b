-- Aside: devices of contracts between functions. Nothing here need be believed: every use of it is tied by a proof to the definitions beside it.
-- A range of the picture's pixels, put in order; and its bytes in pairs, the two of eight pixels of a row. Assumes nothing.
use Rattle.std.specs.Prelude.{List, ℕ, zero, suc, ◌+◌, ◌*◌, ◌/◌, ◌%◌, leb, set}
use Rattle.laws.specs.Pick.{pick}
use Rattle.tiles.specs.Tiles.{put_at}
use Rattle.tiles.specs.Picture.{picture_shade, low_byte, high_byte}

-- pixel j of the picture, row by row, put
unfoldable pub put_nth : (ℕ → ℕ → ℕ) → List ℕ → ℕ → List ℕ → List ℕ
put_nth lit regs j ram = put_at ram (j % 128) (j / 128) (picture_shade lit regs (j % 128) (j / 128))

-- the pixels from..to of the picture, in order
unfoldable pub pixels : (ℕ → ℕ → ℕ) → List ℕ → ℕ → ℕ → List ℕ → List ℕ
pixels lit regs from zero ram = ram
pixels lit regs from (suc j) ram = pick (leb from j) (put_nth lit regs j (pixels lit regs from j ram)) ram

-- pair n is of tile column n mod 16 and row n / 16: where it stands from the picture's first byte on
abbrev pub pair_at : ℕ → ℕ
pair_at n = 16 * (16 * (n / 16 / 8) + n % 16) + 2 * (n / 16 % 8)

-- pair n, in a list whose element `at` is the picture's first byte
unfoldable pub put_pair : (ℕ → ℕ → ℕ) → List ℕ → ℕ → ℕ → List ℕ → List ℕ
put_pair lit regs at n out =
    set (set out (at + pair_at n) (low_byte lit regs (n % 16) (n / 16))) (at + pair_at n + 1) (high_byte lit regs (n % 16) (n / 16))

-- n pairs from one on, in order
unfoldable pub put_pairs : (ℕ → ℕ → ℕ) → List ℕ → ℕ → ℕ → ℕ → List ℕ → List ℕ
put_pairs lit regs at from zero out = out
put_pairs lit regs at from (suc n) out = put_pair lit regs at (from + n) (put_pairs lit regs at from n out)
