-- A capture that ended left the picture of its start in the area, if no bus write landed there since. Assumes nothing.
use mathlib.Core.Path.{◌≡◌, refl, sym, ap, ◌∙◌}
use mathlib.Core.Bool.{Bool, true, false, not, ◌&&◌, and-false}
use mathlib.Core.List.{List, [], ◌∷◌, ◌++◌}
use Prim.Native.Nat.{ℕ, ◌+◌, ◌-◌, ◌*◌, ◌/◌, ◌%◌, ◌<◌, ◌≤◌}
use native.Mathlib.Nat.{add-zero}
use native.Mathlib.Omega.{arith}
use lib.Dec.{leb}
use lib.ListN.{length, get_or, drop, length-take, length-drop}
use lib.Seq.{get_or-take, get_or-drop, ext_get_or}
use borrow.Author.Tests.{ltb-true, lt-ltb, le-leb, not-true}
use Rattle.laws.specs.Bits.{bit_of}
use Rattle.laws.proofs.Pick.{pick_ind}
use Rattle.lighting.specs.Light.{byte_at}
use Rattle.timing.specs.Lent.{ram_allowed}
use Rattle.tiles.specs.Tiles.{shade_in, area_of, Bytes}
use Rattle.tiles.specs.Picture.{picture_shade, picture_of}
use Rattle.timing.specs.Aside.{done_by}
use Rattle.timing.proofs.Lent.{ram_lent}
use Rattle.laws.proofs.Bools.{either, not_both, both_hold, both_left, both_right}
use Rattle.tiles.proofs.Run.{pixels_none}
use Rattle.timing.proofs.Range.{done_all, done_most}
use Rattle.tiles.proofs.Pixels.{pixels_bytes}
use Rattle.tiles.proofs.Area.{area_whole}
use Rattle.plates.specs.Grey.{plate_of, plate_afresh}
use Rattle.placing.specs.Placing.{pixels_of}
use Rattle.plates.proofs.Same.{afresh_plate}
use Rattle.history.specs.History.{Call, reset, read, write, tick, inspect, choose, place, World, fresh, leaves, after, counted}
use Rattle.history.specs.Seen.{start_seen, idle_through, AreaLeft, in_area, byte_in, writes_byte, bytes_in}
use Rattle.history.specs.Bits.{cycle_of, column_at, row_at, pixel_at, bit_at}
use Rattle.history.proofs.Track.{Track, runs_in, starts, ends, image_in, registers_at, lands, next, told, lit_by}
use Rattle.history.proofs.Since.{Whole, Clear, no_start, sent_told, last_told}
use Rattle.history.proofs.Area.{area_small}
use Rattle.history.proofs.Follows.{Moment, at_reset_lem, moment_next, moment_after, put_next, byte_next}
use Rattle.history.proofs.Touched.{passed, short_runs, ram_size_lem, pixel_most}
use Rattle.history.proofs.Outside.{size_after, same_size}
use Rattle.history.proofs.Goes.{Of, rests_next, end_count, on, now_last, world_last, moment_last}
use Rattle.history.proofs.Shows.{held_now, start_same, landed_same}
use Rattle.history.proofs.HalfPicture.{spot, nth, at_inside, at_column, at_row, shade_of_bits, sent_append, sent_next, since_start, sent_start, sent_now, first_clear, long_ram}

-- ---- bytes stay bytes

byte_small : (k : Call) (p : ℕ) → writes_byte k ≡ true → byte_in k p < 256
unfolding writes_byte byte_in
byte_small reset p h = omega arith
byte_small (read rom a) p h = omega arith
byte_small (write image a v) p h = ltb-true v 256 h
byte_small (tick n) p h = omega arith
byte_small inspect p h = omega arith
byte_small (choose light level plain exposure) p h = omega arith
byte_small (place file) p h = area_small (pixels_of file) (p - 0x100)

put_bytes_lem : (t : Track) (w : World) (m : Moment t w) (k : Call) → Bytes w.ram → Bytes (put_next t w m k)
put_bytes_lem t w m k b =
    either (ram_allowed t.ram_size)
    (λ ok. pixels_bytes (byte_at w.store) t.capture.taken _ _ w.ram (done_most t.capture.taken _) (rw (ram_size_lem t w m k) (ram_lent t.ram_size ok).least) b)
    (λ bad. rw (short_runs t k bad, add-zero t.capture.ran, pixels_none (byte_at w.store) t.capture.taken (done_by t.capture.taken t.capture.ran) w.ram) b)

bytes_next : (t : Track) (w : World) (m : Moment t w) (k : Call) → writes_byte k ≡ true → Bytes w.ram → Bytes (leaves w k).ram
bytes_next t w m k small b p =
    rw (byte_next t w m k p) (pick_ind (λ (x : ℕ). x < 256) (lands t k p) (λ _. byte_small k p small) (λ _. put_bytes_lem t w m k b p))

bytes_after_lem : (cs : List Call) (t : Track) (w : World) → Moment t w → bytes_in cs ≡ true → Bytes w.ram → Bytes (after w cs).ram
unfolding after bytes_in
bytes_after_lem [] t w m s b = b
bytes_after_lem (k ∷ cs) t w m s b =
    bytes_after_lem cs (next t k) (leaves w k) (moment_next t w m k) (both_right (writes_byte k) (bytes_in cs) s)
    (bytes_next t w m k (both_left (writes_byte k) (bytes_in cs) s) b)

-- ---- the end

-- the call in which a capture ends is a tick
ends_lands : (t : Track) (k : Call) (p : ℕ) → ends t k ≡ true → lands t k p ≡ false
unfolding ends lands
ends_lands t reset p h = refl
ends_lands t (read rom a) p h = refl
ends_lands t (write image a v) p h = not_both h refl
ends_lands t (tick n) p h = refl
ends_lands t inspect p h = refl
ends_lands t (choose light level plain exposure) p h = refl
ends_lands t (place file) p h = not_both h refl

module _ (ram store : List ℕ) (before : List Call) (start : Call) (between : List Call) (last : Call) (h : Whole (told ram store before) start between last) where
  abbrev t₀ : Track
  t₀ = told ram store before

  abbrev w₀ : World
  w₀ = after (fresh ram store) before

  abbrev regs : List ℕ
  regs = registers_at t₀ start

  abbrev t : Track
  t = now_last ram store before start between last h

  abbrev w : World
  w = world_last ram store before start between last h

  m : Moment t w
  m = moment_last ram store before start between last h

  -- all its pixels are done
  abbrev n : ℕ
  n = counted w₀ (start ∷ between)

  o : Of (image_in start) regs n t.capture
  o = on ram store before start between h.held

  all_done : done_by regs (n + runs_in t last) ≡ 14336
  all_done = rw (← o.ran, (end_count t last h.over).1, o.taken) (done_all regs)

  -- so the cycle of each has run
  all_run : (j : ℕ) → j < 14336 → leb (cycle_of regs j) (n + runs_in t last) ≡ true
  all_run j most = sym (passed regs j (n + runs_in t last) most) ∙ rw all_done (lt-ltb j 14336 most)

  module _ (c : Clear in_area (next t₀ start) between) where
    abbrev calls : List Call
    calls = before ++ (start ∷ (between ++ (last ∷ [])))

    -- the last thing sent to each bit of a pixel is its bit of the shade afresh
    bit_done : (p b : ℕ) (here : in_area p ≡ true) → b < 8
        → bit_of (get_or (after (fresh ram store) calls).ram p 0) b ≡ bit_at p (picture_shade (lit_by (image_in start) regs) regs (column_at p b) (row_at p))
    unfolding last_told
    bit_done p b here small =
        let was = bit_of (get_or w₀.ram p 0) b in
        let by = since_start ram store before start p b here small h.held.begins in
        sent_start ram store before start p b here small h.held.begins (between ++ (last ∷ []))
        ∙ sent_append p b between (last ∷ []) (next t₀ start) (by 0)
        ∙ ap (sent_told p b t last) (sent_now ram store before start p b here small h.held.begins between h.held (c p here))
        ∙ sent_next (image_in start) regs p b was here t n last o (ends_lands t last p h.over)
        ∙ rw (all_run (pixel_at p b) (pixel_most p b here small))

    pixel_done : (j : ℕ) → j < 14336 → shade_in (after (fresh ram store) calls).ram (j % 128) (j / 128) ≡ picture_shade (lit_by (image_in start) regs) regs (j % 128) (j / 128)
    pixel_done j most =
        shade_of_bits (after (fresh ram store) calls).ram w₀.ram j (picture_shade (lit_by (image_in start) regs) regs (j % 128) (j / 128)) most true
        (λ d bit.
        rw (at_column j d most bit, at_row j d most bit) at (bit_done (spot j d most bit) (nth j d most bit) (at_inside j d most bit) (omega arith)))

module _ (ram store : List ℕ) (before : List Call) (start : Call) (between : List Call) (last : Call)
    (h : Whole (told ram store before) start between last)
    (c : Clear in_area (next (told ram store before) start) between)
    (first : Bytes ram)
    (bytes : bytes_in (before ++ (start ∷ (between ++ (last ∷ [])))) ≡ true) where
  abbrev at_start : List ℕ
  at_start = registers_at (told ram store before) start

  abbrev then : List ℕ
  then = (after (fresh ram store) (before ++ (start ∷ (between ++ (last ∷ []))))).ram

  long_then : 8192 ≤ length then
  long_then = rw (same_size ram store (before ++ (start ∷ (between ++ (last ∷ []))))) (long_ram ram store before start h.held.begins)

  bytes_then : Bytes then
  bytes_then = bytes_after_lem (before ++ (start ∷ (between ++ (last ∷ [])))) _ (fresh ram store) (at_reset_lem ram store) bytes first

  -- Picture: any calls, a start, any calls with no reset up to and with the one in which that capture reaches its end, none of which landed
  -- in the picture area: the area's 3,584 bytes are the picture afresh from the image lent at the start and the registers at the start
  pub picture : area_of (after (fresh ram store) (before ++ (start ∷ (between ++ (last ∷ []))))).ram ≡ picture_of (lit_by (image_in start) (registers_at (told ram store before) start)) (registers_at (told ram store before) start)
  picture =
      area_whole (lit_by (image_in start) at_start) at_start then long_then bytes_then
      (λ x y hx hy.
      let a : (y * 128 + x) % 128 ≡ x = omega arith in
      let b : (y * 128 + x) / 128 ≡ y = omega arith in
      rw (a, b) at (pixel_done ram store before start between last h c (y * 128 + x) (omega arith)))

  -- Plate: the file exported of such a plate is the file of the picture afresh
  pub plate : plate_of (after (fresh ram store) (before ++ (start ∷ (between ++ (last ∷ []))))).ram ≡ plate_afresh (lit_by (image_in start) (registers_at (told ram store before) start)) (registers_at (told ram store before) start)
  plate = afresh_plate (lit_by (image_in start) at_start) at_start then long_then bytes_then picture

-- ---- and there it stays

-- the first call of calls with no start
first_rests : (t : Track) (k : Call) (cs : List Call) → no_start t (k ∷ cs) ≡ true → (starts t k ≡ false) × (no_start (next t k) cs ≡ true)
unfolding no_start
first_rests t k cs h = (not-true (starts t k) (both_left (not (starts t k)) (no_start (next t k) cs) h), both_right (not (starts t k)) (no_start (next t k) cs) h)

-- a byte, while no capture is held and no write lands there
stays_next : (t : Track) (w : World) (m : Moment t w) (k : Call) (p : ℕ) → runs_in t k ≡ 0 → lands t k p ≡ false → get_or (leaves w k).ram p 0 ≡ get_or w.ram p 0
stays_next t w m k p still out =
    byte_next t w m k p ∙ rw (out, still, add-zero t.capture.ran, pixels_none (byte_at w.store) t.capture.taken (done_by t.capture.taken t.capture.ran) w.ram)

stays_through : (cs : List Call) (t : Track) (w : World) → Moment t w → t.capture.held ≡ false → no_start t cs ≡ true → Clear in_area t cs
    → (p : ℕ) → in_area p ≡ true → get_or (after w cs).ram p 0 ≡ get_or w.ram p 0
unfolding after
stays_through [] t w m h s c p here = refl
stays_through (k ∷ cs) t w m h s c p here =
    let f = first_rests t k cs s in
    let g = first_clear in_area t k cs c in
    let r = rests_next t k h f.0 in
    stays_through cs (next t k) (leaves w k) (moment_next t w m k) r.1 f.1 g.1 p here ∙ stays_next t w m k p r.0 (g.0 p here)

-- two RAMs of a length with the same bytes there have the same area
area_same : (r s : List ℕ) → length r ≡ length s → ((p : ℕ) → in_area p ≡ true → get_or r p 0 ≡ get_or s p 0) → area_of r ≡ area_of s
unfolding in_area
area_same r s l e =
    ext_get_or 0 (area_of r) (area_of s) (simp (length-take, length-drop, l))
    (λ i h.
    let most : i < 3584 = omega (arith, simp length-take at h) in
    byte r i most ∙ e (0x100 + i) (rw (le-leb 0x100 (0x100 + i) (omega arith)) (le-leb (0x100 + i) 0xEFF (omega arith))) ∙ sym (byte s i most))
  where
    byte : (l : List ℕ) (i : ℕ) → i < 3584 → get_or (area_of l) i 0 ≡ get_or l (0x100 + i) 0
    byte l i h = get_or-take 3584 (drop 0x100 l) i 0 h ∙ get_or-drop 0x100 l i 0

-- where none is held all through there is no start, and where none is held at first and there is no start none is held all through
idle_first : (cs : List Call) (w : World) → idle_through w cs ≡ true → w.state.held ≡ false
unfolding idle_through
idle_first [] w h = not-true w.state.held h
idle_first (k ∷ cs) w h = not-true w.state.held (both_left (not w.state.held) (idle_through (leaves w k) cs) h)

none_starts : (w : World) (k : Call) → (leaves w k).state.held ≡ false → start_seen w k ≡ false
unfolding start_seen
none_starts w k off = ap (λ (b : Bool). not w.state.held && b) off ∙ and-false (not w.state.held)

idle_told : (cs : List Call) (t : Track) (w : World) → Moment t w → idle_through w cs ≡ true → no_start t cs ≡ true
unfolding idle_through no_start
idle_told [] t w m h = refl
idle_told (k ∷ cs) t w m h =
    let rest = both_right (not w.state.held) (idle_through (leaves w k) cs) h in
    both_hold (ap not (start_same t w m k ∙ none_starts w k (idle_first cs (leaves w k) rest))) (idle_told cs (next t k) (leaves w k) (moment_next t w m k) rest)

pub told_idle : (cs : List Call) (t : Track) (w : World) → Moment t w → t.capture.held ≡ false → no_start t cs ≡ true → idle_through w cs ≡ true
unfolding idle_through
told_idle [] t w m off s = ap not (sym (held_now t w m) ∙ off)
told_idle (k ∷ cs) t w m off s =
    let f = first_rests t k cs s in
    both_hold (ap not (sym (held_now t w m) ∙ off)) (told_idle cs (next t k) (leaves w k) (moment_next t w m k) (rests_next t k off f.0).1 f.1)

-- the area stays through calls with none held and none that landed there
pub area_stays : (cs : List Call) (t : Track) (w : World) → Moment t w → idle_through w cs ≡ true → AreaLeft w cs → area_of (after w cs).ram ≡ area_of w.ram
area_stays cs t w m idle left =
    area_same (after w cs).ram w.ram (size_after cs t w m)
    (stays_through cs t w m (held_now t w m ∙ idle_first cs w idle) (idle_told cs t w m idle) (λ p here. landed_same cs t w m p ∙ left p here))

-- Picture stays: through any calls after the end, with no capture held and none that landed in the area, the area is that picture
pub picture_stays : (ram store : List ℕ) (before : List Call) (start : Call) (between : List Call) (last : Call) (later : List Call)
    → Whole (told ram store before) start between last
    → Clear in_area (next (told ram store before) start) between
    → idle_through (after (fresh ram store) (before ++ (start ∷ (between ++ (last ∷ []))))) later ≡ true
    → AreaLeft (after (fresh ram store) (before ++ (start ∷ (between ++ (last ∷ []))))) later
    → Bytes ram
    → bytes_in (before ++ (start ∷ (between ++ (last ∷ [])))) ≡ true
    → area_of (after (after (fresh ram store) (before ++ (start ∷ (between ++ (last ∷ []))))) later).ram ≡ picture_of (lit_by (image_in start) (registers_at (told ram store before) start)) (registers_at (told ram store before) start)
picture_stays ram store before start between last later h c idle left first bytes =
    area_stays later _ _ (moment_after (before ++ (start ∷ (between ++ (last ∷ [])))) _ _ (at_reset_lem ram store)) idle left
    ∙ picture ram store before start between last h c first bytes
