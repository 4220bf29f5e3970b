-- Aside: devices of contracts between functions. Nothing here need be believed: every use of it is tied by a proof to the definitions beside it.
-- Each pixel as a sum of what its two bits add, or the negative of it; eight pixels as one number. Assumes nothing.
use Rattle.std.specs.Prelude.{◌≡◌, Bool, List, ℕ, ◌+◌, ◌-◌, ◌*◌, ◌/◌, ◌%◌, ◌<◌, ◌≤◌, length, get_or, set}
use Rattle.laws.specs.Bits.{bit_of}
use Rattle.laws.specs.Pick.{pick}
use Rattle.lighting.specs.Light.{turned}
use Rattle.tiles.specs.Tiles.{place}

-- eight bytes as one number, the first the lowest
unfoldable pub eight_of : (ℕ → ℕ) → ℕ
eight_of f = f 0 + 256 * (f 1 + 256 * (f 2 + 256 * (f 3 + 256 * (f 4 + 256 * (f 5 + 256 * (f 6 + 256 * f 7))))))

-- a byte's bits, each as a byte, the highest bit the first
unfoldable pub bits_of : ℕ → ℕ
bits_of b = eight_of (λ k. bit_of b (7 - k))

-- the table of them, as far as it is made, each bit `step`
pub record Built (step n : ℕ) (t : List ℕ) : Type 0 where
  pub whole : length t ≡ 256
  pub same : (b : ℕ) → b < n → get_or t b 0 ≡ step * bits_of b

-- no number of such a table is so large that three of them would not fit
abbrev pub Low : List ℕ → Type 0
Low t = (b : ℕ) → b < 256 → get_or t b 0 ≤ 0x5555555555555555

-- eight pixels by it, or the negative of them, from their two bytes
unfoldable pub eight_by : Bool → List ℕ → ℕ → ℕ → ℕ
eight_by negative t l h = pick negative (0xFFFFFFFFFFFFFFFF - (get_or t l 0 + 2 * get_or t h 0)) (get_or t l 0 + 2 * get_or t h 0)

-- so those of the two bytes of tile column x in row y
pub record Eight (ram t : List ℕ) (x y : ℕ) (negative : Bool) (r : ℕ) : Type 0 where
  pub low : get_or ram (place (8 * x) y) 0 < 256
  pub high : get_or ram (place (8 * x) y + 1) 0 < 256
  pub made : r ≡ eight_by negative t (get_or ram (place (8 * x) y) 0) (get_or ram (place (8 * x) y + 1) 0)

-- a byte with one bit, and what that bit adds to the bytes below it
pub record Weight (w bit : ℕ) : Type 0 where
  pub some : 0 < w
  pub byte : w ≤ 128
  pub adds : (b : ℕ) → b < w → bits_of (w + b) ≡ bits_of b + bit

-- a number's eight bytes put from a place on
unfoldable pub put_eight : List ℕ → ℕ → ℕ → List ℕ
put_eight out at v =
    set
    (set
    (set
    (set
    (set
    (set (set (set out at (v % 256)) (at + 1) (v / 0x100 % 256)) (at + 2) (v / 0x10000 % 256))
    (at + 3)
    (v / 0x1000000 % 256))
    (at + 4)
    (v / 0x100000000 % 256))
    (at + 5)
    (v / 0x10000000000 % 256))
    (at + 6)
    (v / 0x1000000000000 % 256))
    (at + 7)
    (v / 0x100000000000000 % 256)

-- pixel k
unfoldable pub tone_nth : ℕ → ℕ → Bool → List ℕ → ℕ → ℕ
tone_nth low high negative ram k =
    turned negative
    (bit_of (get_or ram (place (k % 128) (k / 128)) 0) (7 - k % 128 % 8) * low + bit_of (get_or ram (place (k % 128) (k / 128) + 1) 0) (7 - k % 128 % 8) * high)
