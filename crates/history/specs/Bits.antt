-- The bits of the RAM: of which pixel a bit of the picture area is, and the last thing that was sent to a bit. Assumes nothing.
use Rattle.std.specs.Prelude.{Bool, ◌&&◌, List, [], ◌∷◌, ℕ, ◌+◌, ◌-◌, ◌*◌, ◌/◌, ◌%◌, eqb, leb, ltb}
use Rattle.laws.specs.Pick.{pick}
use Rattle.laws.specs.Bits.{bit_of}
use Rattle.lighting.specs.Taken.{setting_of}
use Rattle.lighting.specs.Light.{lit_of}
use Rattle.timing.specs.Timing.{reading_from, first_row}
use Rattle.tiles.specs.Picture.{picture_shade}
use Rattle.history.specs.History.{Call, reset, read, write, tick, inspect, choose, place, World, leaves, answers, count_in}
use Rattle.history.specs.Seen.{start_seen, in_area, lands_seen, byte_in}

-- bit b of the byte at place p of the area is of the pixel in this column and in this row: the byte is of tile 16 × (y/8) + x/8 and of
-- row y mod 8 in it, and bit 7 − x mod 8 of it is the pixel's
abbrev pub column_at : ℕ → ℕ → ℕ
column_at p b = 8 * ((p - 0x100) / 16 % 16) + (7 - b)

abbrev pub row_at : ℕ → ℕ
row_at p = 8 * ((p - 0x100) / 256) + (p - 0x100) / 2 % 8

-- its number, row by row
abbrev pub pixel_at : ℕ → ℕ → ℕ
pixel_at p b = 128 * row_at p + column_at p b

-- of that pixel's shade an even place has the low bit, and an odd place the high bit
unfoldable pub bit_at : ℕ → ℕ → ℕ
bit_at p shade = pick (eqb (p % 2) 0) (shade % 2) (shade / 2)

-- the cycle on which pixel j of the picture falls: the one that first makes elapsed/2 equal S + k + 1, where picture row 0 is sensor row 8
unfoldable pub cycle_of : List ℕ → ℕ → ℕ
cycle_of regs j = 2 * (reading_from regs + (128 * (8 - first_row regs) + j) + 1)

-- in a call the capture held sends its pixel to this bit: the pixel's cycle is one of the call's running cycles
unfoldable pub sends : World → Call → ℕ → ℕ → Bool
sends w c p b =
    in_area p
    && (ltb w.state.elapsed.0 (cycle_of w.state.taken (pixel_at p b))
    && leb (cycle_of w.state.taken (pixel_at p b)) (w.state.elapsed.0 + count_in (answers w c)))

-- what it sends: of the shade afresh, from the image lent at that capture's start and the registers taken then
unfoldable pub shade_sent : List ℕ → List ℕ → ℕ → ℕ → ℕ
shade_sent image regs p b = bit_at p (picture_shade (lit_of image (setting_of regs)) regs (column_at p b) (row_at p))

-- the image lent at the start of the capture that a call leaves: that of a write that is a start, or else the same as before
unfoldable pub lent_in : World → Call → List ℕ → List ℕ
lent_in w reset image = image
lent_in w (read rom a) image = image
lent_in w (write lent a v) image = pick (start_seen w (write lent a v)) lent image
lent_in w (tick n) image = image
lent_in w inspect image = image
lent_in w (choose light level plain exposure) image = image
lent_in w (place file) image = image

-- what a call sends to this bit: of a bus write or a placing that lands in its byte, that bit; or the capture's pixel; else it is what it was
unfoldable pub sent_in : ℕ → ℕ → World → List ℕ → Call → ℕ → ℕ
sent_in p b w image c was =
    pick (lands_seen w c p) (bit_of (byte_in c p) b) (pick (sends w c p b) (shade_sent image w.state.taken p b) was)

-- the last thing that these calls sent to this bit, or else what it held at first
unfoldable pub last_sent : ℕ → ℕ → World → List ℕ → List Call → ℕ → ℕ
last_sent p b w image [] first = first
last_sent p b w image (c ∷ cs) first = last_sent p b (leaves w c) (lent_in w c image) cs (sent_in p b w image c first)
