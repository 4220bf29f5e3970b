-- While a capture runs or stands still: the pixels passed are the fresh picture's, the others what they were. Assumes nothing.
use mathlib.Core.Path.{◌≡◌, refl, sym, ap, ◌∙◌}
use mathlib.Core.Bool.{Bool, true, false, not, ◌&&◌, and-false, or-true}
use mathlib.Core.List.{List, [], ◌∷◌, ◌++◌}
use Prim.Native.Nat.{ℕ, ◌+◌, ◌-◌, ◌*◌, ◌/◌, ◌%◌, ◌<◌, ◌≤◌}
use native.Mathlib.Nat.{add-zero, zero-add, add_assoc}
use native.Mathlib.Omega.{arith}
use lib.Dec.{eqb, leb, ltb}
use lib.ListN.{length, get_or}
use borrow.Author.Tests.{eq-eqb, ne_eqb, lt-ltb, le-ltb, le-leb, lt-leb}
use Rattle.laws.specs.Pick.{pick}
use Rattle.laws.specs.Bits.{is_set, bit_of}
use Rattle.laws.proofs.Order.{split}
use Rattle.timing.specs.Lent.{ram_allowed}
use Rattle.timing.specs.Timing.{reading_from, first_row}
use Rattle.tiles.specs.Tiles.{shade_in}
use Rattle.tiles.specs.Tiles as tiles
use Rattle.tiles.specs.Picture.{picture_shade}
use Rattle.timing.proofs.Lent.{ram_lent}
use Rattle.laws.proofs.Bools.{not_both, both_left, both_right, neither_left, neither_right}
use Rattle.tiles.proofs.Area.{Stands, stands}
use Rattle.history.specs.History.{Call, reset, read, write, tick, inspect, choose, place, World, fresh, leaves, after, counted}
use Rattle.history.specs.Seen.{in_area}
use Rattle.history.specs.Bits.{cycle_of, column_at, row_at, pixel_at, bit_at, shade_sent}
use Rattle.history.proofs.Track.{Track, at_reset, write_accepted, runs_in, to_registers, starts, image_in, registers_at, to_ram, lands, next, follow, told, lit_by}
use Rattle.history.proofs.Since.{Held, of_pixel, landed, Clear, goes_on, sends_told, sent_told, last_told}
use Rattle.history.proofs.Follows.{Moment, at_reset_lem, moment_next, moment_after, count_next}
use Rattle.history.proofs.Touched.{ram_size_lem, still_sends, touched_told}
use Rattle.history.proofs.Outside.{same_size}
use Rattle.history.proofs.Goes.{Of, goes_next, first_goes, moment_start, begun, same_count, start_count}

-- no pixel is sent at once
not_at_once : (regs : List ℕ) (j : ℕ) → leb (cycle_of regs j) 0 ≡ false
unfolding cycle_of
not_at_once regs j = lt-leb (2 * (reading_from regs + (128 * (8 - first_row regs) + j) + 1)) 0 (omega arith)

-- a start is over a RAM of a size allowed
starts_allowed : (t : Track) (k : Call) → starts t k ≡ true → ram_allowed t.ram_size ≡ true
unfolding starts to_registers write_accepted
starts_allowed t reset h = not_both h refl
starts_allowed t (read rom a) h = not_both h refl
starts_allowed t (write image a v) h = both_left (ram_allowed t.ram_size) _ (both_left _ _ (both_left _ _ h))
starts_allowed t (tick n) h = not_both h refl
starts_allowed t inspect h = not_both h refl
starts_allowed t (choose light level plain exposure) h = not_both h refl
starts_allowed t (place file) h = not_both h refl

-- ---- a pixel's two bits

-- bit d of pixel j stands at its place and d, as bit 7 − x mod 8
module _ (j d : ℕ) (most : j < 14336) (bit : d < 2) where
  abbrev pub spot : ℕ
  spot = tiles.place (j % 128) (j / 128) + d

  abbrev pub nth : ℕ
  nth = 7 - j % 128 % 8

  pub at_inside : in_area spot ≡ true
  unfolding in_area
  at_inside = rw (le-leb 0x100 spot (omega arith)) (le-leb spot 0xEFF (omega arith))

  parted : Stands (spot - 0x100) (j % 128 / 8) (j / 128) d
  parted = stands (spot - 0x100) (j % 128 / 8) (j / 128) d (omega arith) bit (omega arith)

  pub at_column : column_at spot nth ≡ j % 128
  at_column = rw parted.column (omega arith)

  pub at_row : row_at spot ≡ j / 128
  at_row = parted.line

  pub at_pixel : pixel_at spot nth ≡ j
  at_pixel = rw (at_column, at_row) (omega arith)

  pub at_of : of_pixel j spot ≡ true
  unfolding of_pixel
  at_of =
      let q = tiles.place (j % 128) (j / 128) in
      split d 1
      (λ l. let z : d ≡ 0 = omega arith in rw (z, add-zero q, eq-eqb q q refl))
      (λ l. let z : d ≡ 1 = omega arith in rw (z, eq-eqb (q + 1) (q + 1) refl) (or-true (eqb (q + 1) q)))

-- a shade by its two bits: fresh in both, or what they were in both
pub shade_of_bits : (r old : List ℕ) (j s : ℕ) (most : j < 14336) (t : Bool)
    → ((d : ℕ) (bit : d < 2) → bit_of (get_or r (spot j d most bit) 0) (nth j d most bit)
    ≡ pick t (bit_at (spot j d most bit) s) (bit_of (get_or old (spot j d most bit) 0) (nth j d most bit)))
    → shade_in r (j % 128) (j / 128) ≡ pick t s (shade_in old (j % 128) (j / 128))
unfolding shade_in bit_at
shade_of_bits r old j s most true e =
    let q = tiles.place (j % 128) (j / 128) in
    let low : bit_of (get_or r q 0) (7 - j % 128 % 8) ≡ s % 2 = rw (add-zero q, eq-eqb (q % 2) 0 (omega arith)) at (e 0 (omega arith)) in
    let high : bit_of (get_or r (q + 1) 0) (7 - j % 128 % 8) ≡ s / 2 = rw (ne_eqb ((q + 1) % 2) 0 (λ z. omega arith)) at (e 1 (omega arith)) in
    rw (low, high) (omega arith)
shade_of_bits r old j s most false e =
    let q = tiles.place (j % 128) (j / 128) in
    let low : bit_of (get_or r q 0) (7 - j % 128 % 8) ≡ bit_of (get_or old q 0) (7 - j % 128 % 8) = rw (add-zero q) at (e 0 (omega arith)) in
    rw (low, e 1 (omega arith))

-- ---- what is sent to a bit from a start on

-- a list of calls after another
pub sent_append : (p b : ℕ) (xs ys : List Call) (t : Track) (first : ℕ) → last_told p b t (xs ++ ys) first ≡ last_told p b (follow t xs) ys (last_told p b t xs first)
unfolding last_told follow
sent_append p b [] ys t first = refl
sent_append p b (k ∷ xs) ys t first = sent_append p b xs ys (next t k) (sent_told p b t k first)

module _ (image regs : List ℕ) (p b was : ℕ) (here : in_area p ≡ true) where
  abbrev cycle : ℕ
  cycle = cycle_of regs (pixel_at p b)

  -- after n cycles: the shade afresh if the pixel's cycle has run, and else what it was
  abbrev pub sent_by : ℕ → ℕ
  sent_by n = pick (leb cycle n) (bit_at p (picture_shade (lit_by image regs) regs (column_at p b) (row_at p))) was

  -- r cycles more
  more_sent : (frame taken : List ℕ) (e n r : ℕ) → frame ≡ image → taken ≡ regs → e ≡ n
      → pick (ltb e (cycle_of taken (pixel_at p b)) && leb (cycle_of taken (pixel_at p b)) (e + r)) (bit_at p (picture_shade (lit_by frame taken) taken (column_at p b) (row_at p))) (sent_by n)
      ≡ sent_by (n + r)
  more_sent frame taken e n r i t h =
      rw (i, t, h)
      (split n cycle
      (λ early. rw (lt-ltb n cycle early, lt-leb cycle n early))
      (λ late. rw (le-ltb n cycle late, le-leb cycle n late, le-leb cycle (n + r) (omega arith))))

  -- one call
  pub sent_next : (t : Track) (n : ℕ) (k : Call) → Of image regs n t.capture → lands t k p ≡ false → sent_told p b t k (sent_by n) ≡ sent_by (n + runs_in t k)
  unfolding sent_told sends_told shade_sent
  sent_next t n k o out = rw (out, here) (more_sent t.capture.image t.capture.taken t.capture.ran n (runs_in t k) o.image o.taken o.ran)

  -- calls through which the capture goes on
  pub sent_through : (cs : List Call) (t : Track) (w : World) → Moment t w → (n : ℕ) → Of image regs n t.capture → goes_on t cs ≡ true → landed p t cs ≡ false
      → last_told p b t cs (sent_by n) ≡ sent_by (n + counted w cs)
  unfolding last_told counted landed
  sent_through [] t w m n o g c = rw (add-zero n)
  sent_through (k ∷ cs) t w m n o g c =
      let f = first_goes t k cs g in
      ap (last_told p b (next t k) cs) (sent_next t n k o (neither_left (lands t k p) (landed p (next t k) cs) c))
      ∙ sent_through cs (next t k) (leaves w k) (moment_next t w m k) (n + runs_in t k) (goes_next t o k f.0 f.1) f.2 (neither_right (lands t k p) (landed p (next t k) cs) c)
      ∙ rw (count_next t w m k, add_assoc n (runs_in t k) (counted (leaves w k) cs))

-- where no call landed, the first did not and the others did not
pub first_clear : (places : ℕ → Bool) (t : Track) (k : Call) (cs : List Call) → Clear places t (k ∷ cs)
    → ((p : ℕ) → places p ≡ true → lands t k p ≡ false) × Clear places (next t k) cs
unfolding landed
first_clear places t k cs c =
    (λ p here. neither_left (lands t k p) (landed p (next t k) cs) (c p here), λ p here. neither_right (lands t k p) (landed p (next t k) cs) (c p here))

-- ---- from reset

-- a start goes to the registers, and leaves the RAM
starts_lands : (t : Track) (k : Call) (p : ℕ) → starts t k ≡ true → lands t k p ≡ false
unfolding starts to_registers lands to_ram
starts_lands t reset p h = refl
starts_lands t (read rom a) p h = refl
starts_lands t (write image a v) p h =
    let ok = write_accepted t image a in
    let high = not (ltb a 0x8000) in
    let regs = is_set t.select 4 in
    let on : regs ≡ true = both_right high regs (both_right ok (high && regs) (both_left (ok && (high && regs)) _ h)) in
    simp (on, and-false)
starts_lands t (tick n) p h = refl
starts_lands t inspect p h = refl
starts_lands t (choose light level plain exposure) p h = refl
starts_lands t (place file) p h = not_both h refl

start_sent : (t : Track) (k : Call) (p b was : ℕ) → starts t k ≡ true → sent_told p b t k was ≡ was
unfolding sent_told
start_sent t k p b was h = rw (starts_lands t k p h, still_sends t k p b (start_count t k h))

-- it is over a RAM of a size allowed, of one bank at least
pub allowed_ram : (ram store : List ℕ) (before : List Call) (start : Call) → starts (told ram store before) start ≡ true → ram_allowed (length ram) ≡ true
allowed_ram ram store before start h =
    let m = moment_after before _ _ (at_reset_lem ram store) in
    rw (← same_size ram store before, ram_size_lem (told ram store before) (after (fresh ram store) before) m start) (starts_allowed (told ram store before) start h)

pub long_ram : (ram store : List ℕ) (before : List Call) (start : Call) → starts (told ram store before) start ≡ true → 8192 ≤ length ram
long_ram ram store before start h = (ram_lent (length ram) (allowed_ram ram store before start h)).least

module _ (ram store : List ℕ) (before : List Call) (start : Call) (p b : ℕ) (here : in_area p ≡ true) (small : b < 8) (begins : starts (told ram store before) start ≡ true) where
  abbrev t₀ : Track
  t₀ = told ram store before

  abbrev w₀ : World
  w₀ = after (fresh ram store) before

  abbrev was : ℕ
  was = bit_of (get_or w₀.ram p 0) b

  -- after so many cycles of its capture
  abbrev pub since_start : ℕ → ℕ
  since_start = sent_by (image_in start) (registers_at t₀ start) p b was here

  -- by *touched*, all that is told of a bit before the start is what it was then; at the start no pixel is sent
  pub sent_start : (rest : List Call) → bit_of (get_or (after (fresh ram store) (before ++ (start ∷ rest))).ram p 0) b ≡ last_told p b (next t₀ start) rest (since_start 0)
  unfolding last_told
  sent_start rest =
      touched_told ram store (before ++ (start ∷ rest)) p b (λ _. small)
      ∙ sent_append p b before (start ∷ rest) (at_reset (length ram) (length store)) (bit_of (get_or ram p 0) b)
      ∙ ap (last_told p b t₀ (start ∷ rest)) (sym (touched_told ram store before p b (λ _. small)))
      ∙ ap (last_told p b (next t₀ start) rest) (start_sent t₀ start p b was begins ∙ rw (not_at_once (registers_at t₀ start) (pixel_at p b)))

  -- while its capture goes on
  pub sent_now : (between : List Call) (h : Held t₀ start between) → landed p (next t₀ start) between ≡ false
      → last_told p b (next t₀ start) between (since_start 0) ≡ since_start (counted w₀ (start ∷ between))
  sent_now between h c =
      sent_through (image_in start) (registers_at t₀ start) p b was here between (next t₀ start) (leaves w₀ start)
      (moment_start ram store before start between h) 0 (begun ram store before start between h) h.goes c
      ∙ rw (same_count ram store before start between h, zero-add (counted (leaves w₀ start) between))

-- Half picture: any calls, a start, any calls through which its capture goes on, none of which landed in pixel j's two bytes: pixel j is
-- the fresh picture's if the cycles counted since the start reach its cycle, and else what it was at the start
pub half_picture : (ram store : List ℕ) (before : List Call) (start : Call) (between : List Call) (j : ℕ)
    → j < 14336
    → Held (told ram store before) start between
    → Clear (of_pixel j) (next (told ram store before) start) between
    → shade_in (after (fresh ram store) (before ++ (start ∷ between))).ram (j % 128) (j / 128)
    ≡ pick (leb (cycle_of (registers_at (told ram store before) start) j) (counted (after (fresh ram store) before) (start ∷ between)))
    (picture_shade (lit_by (image_in start) (registers_at (told ram store before) start)) (registers_at (told ram store before) start) (j % 128) (j / 128))
    (shade_in (after (fresh ram store) before).ram (j % 128) (j / 128))
half_picture ram store before start between j most h c =
    let regs = registers_at (told ram store before) start in
    let s = picture_shade (lit_by (image_in start) regs) regs (j % 128) (j / 128) in
    let n = counted (after (fresh ram store) before) (start ∷ between) in
    shade_of_bits (after (fresh ram store) (before ++ (start ∷ between))).ram (after (fresh ram store) before).ram j s most (leb (cycle_of regs j) n)
    (λ d bit.
    let p = spot j d most bit in
    let b = nth j d most bit in
    let here = at_inside j d most bit in
    let small : nth j d most bit < 8 = omega arith in
    rw (at_pixel j d most bit, at_column j d most bit, at_row j d most bit) at
    (sent_start ram store before start p b here small h.begins between
    ∙ sent_now ram store before start p b here small h.begins between h (c p (at_of j d most bit))))
