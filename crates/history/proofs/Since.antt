-- Since a start, as the calls alone tell it: how long its capture goes on, where writes landed, and the last thing sent to a bit. Assumes nothing.
use mathlib.Core.Path.{◌≡◌}
use mathlib.Core.Bool.{Bool, true, false, not, ◌&&◌, ◌||◌}
use mathlib.Core.List.{List, [], ◌∷◌, ◌++◌}
use Prim.Native.Nat.{ℕ, ◌+◌, ◌/◌, ◌%◌}
use lib.Dec.{eqb, leb, ltb}
use lib.ListN.{length}
use Rattle.laws.specs.Pick.{pick}
use Rattle.laws.specs.Bits.{bit_of}
use Rattle.tiles.specs.Tiles as tiles
use Rattle.history.specs.History.{Call}
use Rattle.history.specs.Seen.{is_reset, in_area, byte_in}
use Rattle.history.specs.Bits.{pixel_at, cycle_of, shade_sent}
use Rattle.history.proofs.Track.{Track, at_reset, runs_in, next, follow, told, starts, ends, lands}

-- the capture held goes on through these calls: none is a reset, and in none it reaches its end
unfoldable pub goes_on : Track → List Call → Bool
goes_on t [] = true
goes_on t (c ∷ cs) = (not (is_reset c) && not (ends t c)) && goes_on (next t c) cs

-- a start, and calls through which its capture goes on: stops, resumes and any other writes are allowed
pub record Held (t : Track) (start : Call) (between : List Call) : Type 0 where
  pub begins : starts t start ≡ true
  pub goes : goes_on (next t start) between ≡ true

-- and the call in which it reaches its end
pub record Whole (t : Track) (start : Call) (between : List Call) (last : Call) : Type 0 where
  pub held : Held t start between
  pub over : ends (follow (next t start) between) last ≡ true

-- a list of calls holds a start, and since then its capture goes on
pub record Begun (ram store : List ℕ) (calls : List Call) : Type 0 where
  pub before : List Call
  pub start : Call
  pub between : List Call
  pub whole : calls ≡ before ++ (start ∷ between)
  pub held : Held (told ram store before) start between

-- the two bytes of pixel j of the picture, row by row
unfoldable pub of_pixel : ℕ → ℕ → Bool
of_pixel j p = eqb p (tiles.place (j % 128) (j / 128)) || eqb p (tiles.place (j % 128) (j / 128) + 1)

-- a bus write of these calls landed in this place
unfoldable pub landed : ℕ → Track → List Call → Bool
landed p t [] = false
landed p t (c ∷ cs) = lands t c p || landed p (next t c) cs

-- none landed in these places
abbrev pub Clear : (ℕ → Bool) → Track → List Call → Type 0
Clear places t cs = (p : ℕ) → places p ≡ true → landed p t cs ≡ false

-- none of these calls is a start
unfoldable pub no_start : Track → List Call → Bool
no_start t [] = true
no_start t (c ∷ cs) = not (starts t c) && no_start (next t c) cs

-- the last byte that a bus write of these calls landed in a place, or else what it held at first
unfoldable pub last_in : ℕ → Track → List Call → ℕ → ℕ
last_in p t [] first = first
last_in p t (c ∷ cs) first = last_in p (next t c) cs (pick (lands t c p) (byte_in c p) first)

-- in a call the capture held sends its pixel to this bit: the pixel's cycle is one of the call's running cycles
unfoldable pub sends_told : Track → Call → ℕ → ℕ → Bool
sends_told t c p b =
    in_area p && (ltb t.capture.ran (cycle_of t.capture.taken (pixel_at p b)) && leb (cycle_of t.capture.taken (pixel_at p b)) (t.capture.ran + runs_in t c))

-- what a call sends to this bit, and the last thing that these calls sent there
unfoldable pub sent_told : ℕ → ℕ → Track → Call → ℕ → ℕ
sent_told p b t c was = pick (lands t c p) (bit_of (byte_in c p) b) (pick (sends_told t c p b) (shade_sent t.capture.image t.capture.taken p b) was)

unfoldable pub last_told : ℕ → ℕ → Track → List Call → ℕ → ℕ
last_told p b t [] first = first
last_told p b t (c ∷ cs) first = last_told p b (next t c) cs (sent_told p b t c first)

-- how many calls of a kind there are since the last reset, with n before these calls
unfoldable pub tally_told : (Track → Call → Bool) → Track → List Call → ℕ → ℕ
tally_told kind t [] n = n
tally_told kind t (c ∷ cs) n = tally_told kind (next t c) cs (pick (is_reset c) 0 (pick (kind t c) (n + 1) n))

-- captures started, and captures that reached their end
abbrev pub starts_told : List ℕ → List ℕ → List Call → ℕ
starts_told ram store cs = tally_told starts (at_reset (length ram) (length store)) cs 0

abbrev pub ends_told : List ℕ → List ℕ → List Call → ℕ
ends_told ram store cs = tally_told ends (at_reset (length ram) (length store)) cs 0
