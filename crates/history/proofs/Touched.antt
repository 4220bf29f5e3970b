-- Each bit of the RAM is the last thing that was sent to it, or what it held at first. Assumes nothing.
use mathlib.Core.Path.{◌≡◌, refl, sym, ap, ◌∙◌}
use mathlib.Core.Bool.{Bool, true, false, ◌&&◌, and-false}
use mathlib.Core.List.{List, [], ◌∷◌}
use Prim.Native.Nat.{ℕ, ◌+◌, ◌-◌, ◌*◌, ◌/◌, ◌%◌, ◌<◌, ◌≤◌, min}
use native.Mathlib.Nat.{add-zero, div-div-eq-div-mul}
use native.Mathlib.Omega.{arith}
use lib.Dec.{leb, ltb}
use lib.ListN.{length, get_or}
use borrow.Author.Tests.{eq-eqb, ne_eqb, leb-true, leb-false, le-leb, lt-leb, lt-ltb, le-ltb}
use Rattle.laws.specs.Pick.{pick}
use Rattle.laws.specs.Bits.{bit_of}
use Rattle.laws.proofs.Order.{split}
use Rattle.laws.proofs.Bools.{either, not_both, both_left, both_right}
use Rattle.lighting.specs.Taken.{setting_of}
use Rattle.lighting.specs.Light.{light_frame, byte_at, lit_of}
use Rattle.sensor.specs.Shade.{shade_at}
use Rattle.sensor.proofs.Rows.{rows}
use Rattle.sensor.proofs.Lit.{light_alike}
use Rattle.timing.specs.Lent.{ram_allowed}
use Rattle.timing.specs.Timing.{reading_from, first_row}
use Rattle.timing.specs.Aside.{picture_from, done_by}
use Rattle.timing.proofs.Lent.{ram_lent}
use Rattle.timing.proofs.Range.{timed, done_most}
use Rattle.tiles.specs.Tiles.{shade_in}
use Rattle.tiles.specs.Tiles as tiles
use Rattle.tiles.specs.Picture.{picture_shade}
use Rattle.tiles.specs.Aside.{pixels}
use Rattle.tiles.proofs.Run.{pixels_none}
use Rattle.tiles.proofs.Pixels.{pixels_outside, pixels_passed, pixels_others}
use Rattle.laws.proofs.Pick.{ap_pick}
use Rattle.history.specs.History.{Call, reset, read, write, tick, inspect, choose, place, World, fresh, leaves, after}
use Rattle.history.specs.Seen.{start_seen, in_area, lands_seen, byte_in}
use Rattle.history.specs.Bits.{cycle_of, column_at, row_at, pixel_at, bit_at, sends, shade_sent, lent_in, sent_in, last_sent}
use Rattle.history.proofs.Track.{Track, at_reset, tick_accepted, runs_in, starts, image_in, lands, next, lit_by}
use Rattle.history.proofs.Since.{sends_told, sent_told, last_told}
use Rattle.history.proofs.Follows.{Moment, at_reset_lem, moment_next, count_next, put_next, byte_next}
use Rattle.history.proofs.Goes.{start_of_lem, goes_next, was_held, idle_runs}
use Rattle.history.proofs.Shows.{itself, start_same, lands_same}

-- ---- where a bit stands

-- a place of the area
record Inside (p : ℕ) : Type 0 where
  pub low : 0x100 ≤ p
  pub high : p < 0xF00

inside : (p : ℕ) → in_area p ≡ true → Inside p
unfolding in_area
inside p here =
    let h : p ≤ 0xEFF = leb-true p 0xEFF (both_right (leb 0x100 p) (leb p 0xEFF) here) in
    record { low = leb-true 0x100 p (both_left (leb 0x100 p) (leb p 0xEFF) here); high = omega arith }

-- a place outside the area
away : (p : ℕ) → in_area p ≡ false → 0x100 ≤ p → p < 0xF00 → ⊥
unfolding in_area
away p out low high = not_both (rw (le-leb 0x100 p low) (le-leb p 0xEFF (omega arith))) out

-- byte i's tile, row and half of it, put together again
parts : (i : ℕ) → 16 * (16 * (i / 256) + i / 16 % 16) + 2 * (i / 2 % 8) + i % 2 ≡ i
parts i =
    let a : i / 2 / 8 ≡ i / 16 = div-div-eq-div-mul i 2 8 in
    let b : i / 16 / 16 ≡ i / 256 = div-div-eq-div-mul i 16 16 in
    let c : 16 * (i / 256) + i / 16 % 16 ≡ i / 16 = omega arith in
    let d : 8 * (i / 16) + i / 2 % 8 ≡ i / 2 = omega arith in
    omega arith

module _ (p b : ℕ) (here : in_area p ≡ true) (small : b < 8) where
  abbrev x : ℕ
  x = column_at p b

  abbrev y : ℕ
  y = row_at p

  abbrev j : ℕ
  j = pixel_at p b

  column_small : x < 128
  column_small = omega arith

  pixel_column : j % 128 ≡ x
  pixel_column = let h = column_small in omega arith

  pixel_row : j / 128 ≡ y
  pixel_row = let h = column_small in omega arith

  pub pixel_most : j < 14336
  pixel_most =
      let r = inside p here in
      let low : 0x100 ≤ p = r.low in
      let high : p < 0xF00 = r.high in
      let a : (p - 0x100) / 256 < 14 = omega arith in
      let h = column_small in
      omega arith

  row_small : y < 112
  row_small = let h = pixel_most in omega arith

  bit_of_lem : 7 - x % 8 ≡ b
  bit_of_lem = omega arith

  place_of : tiles.place x y + p % 2 ≡ p
  place_of =
      let low : 0x100 ≤ p = (inside p here).low in
      let a : x / 8 ≡ (p - 0x100) / 16 % 16 = omega arith in
      let b : y / 8 ≡ (p - 0x100) / 256 = omega arith in
      let c : y % 8 ≡ (p - 0x100) / 2 % 8 = omega arith in
      let d : p % 2 ≡ (p - 0x100) % 2 = omega arith in
      rw (a, b, c, d) (omega (arith, parts (p - 0x100)))

  -- the bit, of the shade that the RAM shows there
  bit_shown : (ram : List ℕ) → bit_of (get_or ram p 0) b ≡ bit_at p (shade_in ram x y)
  unfolding bit_at shade_in
  bit_shown ram =
      split 0 (p % 2)
      (λ odd.
      let e : tiles.place x y + 1 ≡ p = omega (arith, place_of) in
      rw (ne_eqb (p % 2) 0 (λ z. omega arith), e, bit_of_lem) (omega arith))
      (λ even.
      let e : tiles.place x y ≡ p = omega (arith, place_of) in
      rw (eq-eqb (p % 2) 0 (omega arith), e, bit_of_lem) (omega arith))

  -- a range of pixels put: the bit is the pixel's, if it is of the range, and else what it was
  bit_put : (lit : ℕ → ℕ → ℕ) (regs ram : List ℕ) (from to : ℕ) → to ≤ 14336 → 8192 ≤ length ram
      → bit_of (get_or (pixels lit regs from to ram) p 0) b
      ≡ pick (leb from j && ltb j to) (bit_at p (picture_shade lit regs x y)) (bit_of (get_or ram p 0) b)
  bit_put lit regs ram from to most long =
      let r = pixels lit regs from to ram in
      let others = pixels_others lit regs from to ram most long j in
      let kept : shade_in r (j % 128) (j / 128) ≡ shade_in ram (j % 128) (j / 128) → bit_of (get_or r p 0) b ≡ bit_of (get_or ram p 0) b =
      λ e. bit_shown r ∙ ap (bit_at p) (rw (pixel_column, pixel_row) at e) ∙ sym (bit_shown ram) in
      split j from
      (λ early. kept (others (λ l _. omega arith)) ∙ rw (lt-leb from j early))
      (λ on.
      split j to
      (λ l.
      bit_shown r
      ∙ ap (bit_at p) (rw (pixel_column, pixel_row) at (pixels_passed lit regs from to ram most long j on l))
      ∙ rw (le-leb from j on, lt-ltb j to l))
      (λ late. kept (others (λ _ l. omega arith)) ∙ rw (le-ltb j to late, and-false)))

-- ---- one call

-- pixel j is done exactly when its cycle has passed
pub passed : (regs : List ℕ) (j e : ℕ) → j < 14336 → ltb j (done_by regs e) ≡ leb (cycle_of regs j) e
unfolding done_by cycle_of
passed regs j e most =
    let t = timed regs in
    split e (2 * (reading_from regs + (128 * (8 - first_row regs) + j) + 1))
    (λ early. le-ltb j (min (e / 2 - picture_from regs) 14336) (omega arith) ∙ sym (lt-leb (2 * (reading_from regs + (128 * (8 - first_row regs) + j) + 1)) e early))
    (λ late. lt-ltb j (min (e / 2 - picture_from regs) 14336) (omega arith) ∙ sym (le-leb (2 * (reading_from regs + (128 * (8 - first_row regs) + j) + 1)) e late))

-- and else it waits for it
waiting : (regs : List ℕ) (j e : ℕ) → j < 14336 → leb (done_by regs e) j ≡ ltb e (cycle_of regs j)
waiting regs j e most =
    split j (done_by regs e)
    (λ l. lt-leb (done_by regs e) j l ∙ sym (le-ltb e (cycle_of regs j) (leb-true (cycle_of regs j) e (sym (passed regs j e most) ∙ lt-ltb j (done_by regs e) l))))
    (λ l. le-leb (done_by regs e) j l ∙ sym (lt-ltb e (cycle_of regs j) (leb-false (cycle_of regs j) e (sym (passed regs j e most) ∙ le-ltb j (done_by regs e) l))))

-- a RAM that is not allowed runs no cycle
pub short_runs : (t : Track) (k : Call) → ram_allowed t.ram_size ≡ false → runs_in t k ≡ 0
unfolding runs_in tick_accepted
short_runs t reset h = refl
short_runs t (read rom a) h = refl
short_runs t (write image a v) h = refl
short_runs t (tick n) h = rw h
short_runs t inspect h = refl
short_runs t (choose light level plain exposure) h = refl
short_runs t (place file) h = refl

-- no cycle runs: no pixel is sent
none_between : (e c r : ℕ) → r ≡ 0 → (ltb e c && leb c (e + r)) ≡ false
none_between e c r z = rw z (split e c (λ l. rw (add-zero e, lt-leb c e l, and-false)) (λ l. rw (le-ltb e c l)))

pub still_sends : (t : Track) (k : Call) (p b : ℕ) → runs_in t k ≡ 0 → sends_told t k p b ≡ false
unfolding sends_told
still_sends t k p b z = ap (λ (s : Bool). in_area p && s) (none_between t.capture.ran (cycle_of t.capture.taken (pixel_at p b)) (runs_in t k) z) ∙ and-false (in_area p)

-- nor outside the area
pub out_sends : (t : Track) (k : Call) (p b : ℕ) → in_area p ≡ false → sends_told t k p b ≡ false
unfolding sends_told
out_sends t k p b out = rw out

module _ (t : Track) (w : World) (m : Moment t w) (k : Call) where
  pub ram_size_lem : length w.ram ≡ t.ram_size
  ram_size_lem = ap (λ (u : Track). u.ram_size) (sym m.told.same)

  -- a shade worked out from the frame store is the one afresh from the image lent at the start
  own_shade : w.store ≡ light_frame t.capture.image (setting_of w.state.taken) → (x y : ℕ) → x < 128 → y < 112
      → picture_shade (byte_at w.store) t.capture.taken x y ≡ picture_shade (lit_by t.capture.image t.capture.taken) t.capture.taken x y
  own_shade own x y hx hy =
      let set = setting_of w.state.taken in
      ap (λ (s : List ℕ). shade_at (byte_at s) t.capture.taken x (y + 8)) own
      ∙ (rows (light_alike t.capture.image set) t.capture.taken x (y + 8) hx (omega arith) (omega arith)).shade
      ∙ ap (λ (u : Track). shade_at (lit_of t.capture.image (setting_of u.capture.taken)) t.capture.taken x (y + 8)) (sym m.told.same)

  module _ (p b : ℕ) where
    abbrev Put : Type 0
    Put = bit_of (get_or (put_next t w m k) p 0) b ≡ pick (sends_told t k p b) (shade_sent t.capture.image t.capture.taken p b) (bit_of (get_or w.ram p 0) b)

    still : runs_in t k ≡ 0 → Put
    still z = rw (still_sends t k p b z, z, add-zero t.capture.ran, pixels_none (byte_at w.store) t.capture.taken (done_by t.capture.taken t.capture.ran) w.ram)

    apart : in_area p ≡ false → Put
    apart out = rw (out_sends t k p b out, pixels_outside (byte_at w.store) t.capture.taken _ _ w.ram (done_most t.capture.taken _) p (away p out))

    -- the capture held sends_told its own pixel
    runs : in_area p ≡ true → b < 8 → t.capture.held ≡ true → ram_allowed t.ram_size ≡ true → Put
    unfolding sends_told shade_sent
    runs here small held ok =
        let shade = own_shade (m.told.own (sym (ap (λ (u : Track). u.capture.held) m.told.same) ∙ held)) (column_at p b) (row_at p) (column_small p b here small) (row_small p b here small) in
        let long : 8192 ≤ length w.ram = rw ram_size_lem (ram_lent t.ram_size ok).least in
        let most = pixel_most p b here small in
        bit_put p b here small (byte_at w.store) t.capture.taken w.ram (done_by t.capture.taken t.capture.ran) (done_by t.capture.taken (t.capture.ran + runs_in t k)) (done_most t.capture.taken _) long
        ∙ rw (here, waiting t.capture.taken (pixel_at p b) t.capture.ran most, passed t.capture.taken (pixel_at p b) (t.capture.ran + runs_in t k) most, shade)

    put : (in_area p ≡ true → b < 8) → Put
    put small =
        either (in_area p)
        (λ here.
        either t.capture.held
        (λ held. either (ram_allowed t.ram_size) (λ ok. runs here (small here) held ok) (λ bad. still (short_runs t k bad)))
        (λ off. still (idle_runs t k off)))
        apart

    -- one call: what it sends_told
    bit_next : (in_area p ≡ true → b < 8) → bit_of (get_or (leaves w k).ram p 0) b ≡ sent_told p b t k (bit_of (get_or w.ram p 0) b)
    unfolding sent_told
    bit_next small =
        ap (λ (v : ℕ). bit_of v b) (byte_next t w m k p)
        ∙ ap_pick (λ (v : ℕ). bit_of v b) (lands t k p) (byte_in k p) (get_or (put_next t w m k) p 0)
        ∙ ap (pick (lands t k p) (bit_of (byte_in k p) b)) (put small)

-- ---- any calls

bit_after : (p b : ℕ) → (in_area p ≡ true → b < 8) → (cs : List Call) (t : Track) (w : World) → Moment t w
    → bit_of (get_or (after w cs).ram p 0) b ≡ last_told p b t cs (bit_of (get_or w.ram p 0) b)
unfolding after last_told
bit_after p b small [] t w m = refl
bit_after p b small (k ∷ cs) t w m =
    bit_after p b small cs (next t k) (leaves w k) (moment_next t w m k) ∙ ap (last_told p b (next t k) cs) (bit_next t w m k p b small)

-- from reset, as the calls alone tell it
pub touched_told : (ram store : List ℕ) (cs : List Call) (p b : ℕ) → (in_area p ≡ true → b < 8)
    → bit_of (get_or (after (fresh ram store) cs).ram p 0) b ≡ last_told p b (at_reset (length ram) (length store)) cs (bit_of (get_or ram p 0) b)
touched_told ram store cs p b small = bit_after p b small cs _ _ (at_reset_lem ram store)

-- ---- and what is told is seen

-- the image of a start, and that of any other call
lent_start : (t : Track) (w : World) (image : List ℕ) (k : Call) → starts t k ≡ true → start_seen w k ≡ true → lent_in w k image ≡ image_in k
unfolding starts image_in lent_in
lent_start t w image reset s h = not_both s refl
lent_start t w image (read rom a) s h = not_both s refl
lent_start t w image (write lent a v) s h = rw h
lent_start t w image (tick n) s h = not_both s refl
lent_start t w image inspect s h = not_both s refl
lent_start t w image (choose light level plain exposure) s h = not_both s refl
lent_start t w image (place file) s h = not_both s refl

lent_other : (w : World) (image : List ℕ) (k : Call) → start_seen w k ≡ false → lent_in w k image ≡ image
unfolding lent_in
lent_other w image reset h = refl
lent_other w image (read rom a) h = refl
lent_other w image (write lent a v) h = rw h
lent_other w image (tick n) h = refl
lent_other w image inspect h = refl
lent_other w image (choose light level plain exposure) h = refl
lent_other w image (place file) h = refl

module _ (t : Track) (w : World) (m : Moment t w) (image : List ℕ) (own : t.capture.held ≡ true → t.capture.image ≡ image) (k : Call) where
  -- the image of the capture held
  lent_next : (next t k).capture.held ≡ true → (next t k).capture.image ≡ lent_in w k image
  lent_next on =
      either (starts t k)
      (λ s. (start_of_lem t k s).image ∙ sym (lent_start t w image k s (sym (start_same t w m k) ∙ s)))
      (λ s.
      let h = was_held t k s on in
      (goes_next t (itself t h.0) k h.1 h.2).image ∙ own h.0 ∙ sym (lent_other w image k (sym (start_same t w m k) ∙ s)))

  module _ (p b : ℕ) where
    sends_same : sends_told t k p b ≡ sends w k p b
    unfolding sends_told sends
    sends_same =
        ap (λ (u : Track). in_area p && (ltb u.capture.ran (cycle_of u.capture.taken (pixel_at p b)) && leb (cycle_of u.capture.taken (pixel_at p b)) (u.capture.ran + runs_in t k))) m.told.same
        ∙ rw (count_next t w m k)

    sent_same : (was : ℕ) → sent_told p b t k was ≡ sent_in p b w image k was
    unfolding sent_told sent_in
    sent_same was =
        rw (lands_same t w m k p)
        (ap (pick (lands_seen w k p) (bit_of (byte_in k p) b))
        (either t.capture.held
        (λ h.
        rw (sends_same, own h) (ap (λ (u : Track). pick (sends w k p b) (shade_sent image u.capture.taken p b) was) m.told.same))
        (λ h. let off : sends_told t k p b ≡ false = still_sends t k p b (idle_runs t k h) in rw (off, sym sends_same ∙ off))))

last_sent_lem : (p b : ℕ) (cs : List Call) (t : Track) (w : World) → Moment t w → (image : List ℕ) → (t.capture.held ≡ true → t.capture.image ≡ image) → (first : ℕ)
    → last_told p b t cs first ≡ last_sent p b w image cs first
unfolding last_told last_sent
last_sent_lem p b [] t w m image own first = refl
last_sent_lem p b (k ∷ cs) t w m image own first =
    ap (last_told p b (next t k) cs) (sent_same t w m image own k p b first)
    ∙ last_sent_lem p b cs (next t k) (leaves w k) (moment_next t w m k) (lent_in w k image) (lent_next t w m image own k) (sent_in p b w image k first)

-- Touched: from reset, after any calls, over any RAM and frame store, each bit of the RAM is the last thing sent to it, or what it held
-- at first; in the picture area each of the bits 0 to 7, and of every other byte each bit
pub touched : (ram store : List ℕ) (cs : List Call) (p b : ℕ) → (in_area p ≡ true → b < 8)
    → bit_of (get_or (after (fresh ram store) cs).ram p 0) b ≡ last_sent p b (fresh ram store) [] cs (bit_of (get_or ram p 0) b)
unfolding at_reset
touched ram store cs p b small =
    touched_told ram store cs p b small ∙ last_sent_lem p b cs _ (fresh ram store) (at_reset_lem ram store) [] (λ h. not_both h refl) (bit_of (get_or ram p 0) b)
