-- An end that is seen is an end that is told, and what is told to end is seen to end: demand 3 on what the worlds show. Assumes nothing.
use mathlib.Core.Path.{◌≡◌, refl, sym, ap, subst, ◌∙◌}
use mathlib.Core.Bool.{true, false, not}
use mathlib.Core.List.{List, [], ◌∷◌, ◌++◌, append_assoc, head-eq_of_cons-eq, tail-eq_of_cons-eq}
use Prim.Native.Nat.{ℕ, ◌+◌, ◌/◌, ◌%◌, ◌<◌}
use native.Mathlib.Nat.{add-zero}
use native.Mathlib.Omega.{arith}
use lib.Dec.{eqb, leb}
use lib.ListN.{get_or, set}
use borrow.Author.Tests.{not-true, eqb-true}
use Rattle.laws.specs.Pick.{pick}
use Rattle.laws.proofs.Bools.{either, not_both, both_hold, both_left, both_right}
use Rattle.timing.specs.Timing.{total_of}
use Rattle.lighting.specs.Taken.{setting_of}
use Rattle.lighting.specs.Light.{lit_of}
use Rattle.tiles.specs.Tiles.{shade_in, area_of, Bytes}
use Rattle.tiles.specs.Tiles as tiles
use Rattle.tiles.specs.Picture.{picture_shade}
use Rattle.plates.specs.Grey.{plate_of, plate_afresh}
use Rattle.history.specs.History.{Call, reset, read, write, tick, inspect, choose, place, World, fresh, leaves, after, counted}
use Rattle.history.specs.Seen.{idle_through, Own, in_area, is_reset, bytes_in, start_seen, end_seen, held_through, lands_seen, landed_seen, last_seen, AreaLeft, Start, start_of, world_before, world_after, registers_of, afresh, afresh_of, counts_of, OneStart, Ended}
use Rattle.history.specs.Bits.{cycle_of}
use Rattle.history.proofs.Track.{Track, starts, ends, image_in, registers_at, lands, next, follow, told}
use Rattle.history.proofs.Since.{goes_on, Held, Whole, of_pixel, landed}
use Rattle.history.proofs.Follows.{Moment, at_reset_lem, moment_next, moment_after, told_true}
use Rattle.history.proofs.Goes.{start_of_lem, goes_next, first_goes, end_next, same_world}
use Rattle.history.proofs.Shows.{held_is, itself, held_now, held_then, start_same, end_same, lands_same, landed_same, last_same}
use Rattle.history.proofs.Outside.{outside}
use Rattle.history.proofs.Cycles.{cycles, cycles_below}
use Rattle.history.proofs.OwnFrame.{own_frame, goes_first, one_start}
use Rattle.history.proofs.HalfPicture.{half_picture}
use Rattle.history.proofs.Picture.{picture, plate, area_stays}

-- it goes on where it is held all through
goes_held : (cs : List Call) (t : Track) (w : World) → Moment t w → t.capture.held ≡ true → goes_on t cs ≡ true → held_through w cs ≡ true
unfolding held_through
goes_held [] t w m h g = sym (held_now t w m) ∙ h
goes_held (k ∷ cs) t w m h g =
    let f = first_goes t k cs g in
    both_hold (sym (held_now t w m) ∙ h) (goes_held cs (next t k) (leaves w k) (moment_next t w m k) (goes_next t (itself t h) k f.0 f.1).held f.2)

first_held : (cs : List Call) (w : World) → held_through w cs ≡ true → w.state.held ≡ true
unfolding held_through
first_held [] w h = h
first_held (k ∷ cs) w h = both_left w.state.held (held_through (leaves w k) cs) h

held_goes : (cs : List Call) (t : Track) (w : World) → Moment t w → held_through w cs ≡ true → goes_on t cs ≡ true
held_goes [] t w m h = unfold goes_on in refl
held_goes (k ∷ cs) t w m h =
    let m' = moment_next t w m k in
    let r : held_through (leaves w k) cs ≡ true = unfold held_through in both_right w.state.held (held_through (leaves w k) cs) h in
    let on : (next t k).capture.held ≡ true = held_then t w m k ∙ first_held cs (leaves w k) r in
    goes_first t k cs (held_is t k on) (either (ends t k) (λ e. not_both on (end_next t k e)) (λ e. e)) (held_goes cs (next t k) (leaves w k) m' r)

-- ---- from reset

module _ (ram store : List ℕ) (cs : List Call) where
  abbrev m : Moment (told ram store cs) (after (fresh ram store) cs)
  m = moment_after cs _ _ (at_reset_lem ram store)

  -- Starts seen: the next call is a start as the calls alone tell just where it is seen to be one
  pub starts_seen_lem : (k : Call) → starts (told ram store cs) k ≡ start_seen (after (fresh ram store) cs) k
  starts_seen_lem k = start_same _ _ m k

  -- Ends seen: and a capture ends in it just where it is seen to end
  pub ends_seen_lem : (k : Call) → ends (told ram store cs) k ≡ end_seen (after (fresh ram store) cs) k
  ends_seen_lem k = end_same _ _ m k

  -- Lands seen: and it lands in a place just where it is seen to land there
  pub lands_seen_lem : (k : Call) (p : ℕ) → lands (told ram store cs) k p ≡ lands_seen (after (fresh ram store) cs) k p
  lands_seen_lem k p = lands_same _ _ m k p

  -- Outside seen: each RAM byte outside the picture area is the last bus write that landed there, or what it held at first
  pub outside_seen : (p : ℕ) → in_area p ≡ false → get_or (after (fresh ram store) cs).ram p 0 ≡ last_seen p (fresh ram store) cs (get_or ram p 0)
  outside_seen p out = outside ram store cs p out ∙ last_same cs _ (fresh ram store) (at_reset_lem ram store) p (get_or ram p 0)

-- ---- one start

-- where a capture is held all through, it is held at each place
held_inside : (xs ys : List Call) (w : World) → held_through w (xs ++ ys) ≡ true → (after w xs).state.held ≡ true
unfolding held_through after
held_inside [] ys w h = first_held ys w h
held_inside (k ∷ xs) ys w h = held_inside xs ys (leaves w k) (both_right w.state.held (held_through (leaves w k) (xs ++ ys)) h)

-- so no start is among calls through which a capture is held
no_start_lem : (xs ys : List Call) (w : World) (k : Call) (cs : List Call) → cs ≡ xs ++ ys → held_through w cs ≡ true → start_seen (after w xs) k ≡ true → ⊥
unfolding start_seen
no_start_lem xs ys w k cs e h s =
    not_both (held_inside xs ys w (rw e at h)) (not-true (after w xs).state.held (both_left (not (after w xs).state.held) _ s))

-- a list of calls is split at a start in one way
one_split : (b c : List Call) (s r : Call) (xs ys : List Call) (w : World) → b ++ (s ∷ xs) ≡ c ++ (r ∷ ys)
    → start_seen (after w b) s ≡ true → held_through (leaves (after w b) s) xs ≡ true
    → start_seen (after w c) r ≡ true → held_through (leaves (after w c) r) ys ≡ true
    → (b ≡ c) × (s ≡ r) × (xs ≡ ys)
unfolding after
one_split [] [] s r xs ys w e p g q h = (refl, head-eq_of_cons-eq e, tail-eq_of_cons-eq e)
one_split [] (k ∷ c) s r xs ys w e p g q h =
    let f : s ≡ k = head-eq_of_cons-eq e in
    absurd (no_start_lem c (r ∷ ys) (leaves w s) r xs (tail-eq_of_cons-eq e) g (rw (← f) at q))
one_split (k ∷ b) [] s r xs ys w e p g q h =
    let f : k ≡ r = head-eq_of_cons-eq e in
    absurd (no_start_lem b (s ∷ xs) (leaves w r) s ys (sym (tail-eq_of_cons-eq e)) h (rw f at p))
one_split (k ∷ b) (j ∷ c) s r xs ys w e p g q h =
    let f : k ≡ j = head-eq_of_cons-eq e in
    let o = one_split b c s r xs ys (leaves w j) (tail-eq_of_cons-eq e) (rw f at p) (rw f at g) q h in
    (λ i. f i ∷ o.0 i, o.1, o.2)

-- ---- what a start that is seen comes to

-- one call more, in which it does not end
goes_more : (cs : List Call) (t : Track) (k : Call) → goes_on t cs ≡ true → is_reset k ≡ false → ends (follow t cs) k ≡ false → goes_on t (cs ++ (k ∷ [])) ≡ true
unfolding follow goes_on
goes_more [] t k g r e = goes_first t k [] r e refl
goes_more (c ∷ cs) t k g r e =
    let f = first_goes t c cs g in
    goes_first t c (cs ++ (k ∷ [])) f.0 f.1 (goes_more cs (next t c) k f.2 r e)

-- a pixel's two bytes
of_pixel_lem : (P : ℕ → Type 0) (j : ℕ) → ((d : ℕ) → d < 2 → P (tiles.place (j % 128) (j / 128) + d)) → (p : ℕ) → of_pixel j p ≡ true → P p
unfolding of_pixel
of_pixel_lem P j f p here =
    let q = tiles.place (j % 128) (j / 128) in
    either (eqb p q)
    (λ e. subst P (add-zero q ∙ sym (eqb-true p q e)) (f 0 (omega arith)))
    (λ e. subst P (sym (eqb-true p (q + 1) (rw e at here))) (f 1 (omega arith)))

module _ {ram store : List ℕ} {calls : List Call} (s : Start ram store calls) where
  m_before : Moment (told ram store s.before) (world_before s)
  m_before = moment_after s.before _ _ (at_reset_lem ram store)

  m_after : Moment (next (told ram store s.before) (start_of s)) (world_after s)
  m_after = moment_next _ _ m_before (start_of s)

  -- it is told
  start_held : Held (told ram store s.before) (start_of s) s.since
  start_held = record {
    begins = start_same _ _ m_before (start_of s) ∙ s.begins;
    goes = held_goes s.since _ _ m_after s.through;
  }

  registers_same : registers_at (told ram store s.before) (start_of s) ≡ registers_of s
  unfolding registers_at
  registers_same = ap (λ (u : Track). set u.registers 0 (s.byte % 8)) (told_true ram store s.before).same

  total_same : total_of (registers_at (told ram store s.before) (start_of s)) ≡ total_of (registers_of s)
  total_same = ap total_of registers_same

  world_same : after (fresh ram store) calls ≡ after (world_after s) s.since
  world_same = ap (after (fresh ram store)) s.whole ∙ same_world ram store s.before (start_of s) s.since start_held

  -- Held below: while it is held, the counts returned since the start stay below its total
  pub held_below : counted (world_before s) (start_of s ∷ s.since) < total_of (registers_of s)
  held_below = rw (← total_same) (cycles_below ram store s.before (start_of s) s.since start_held)

  -- Own seen: the frame store is the light of the image lent at the start, by the registers at it, and these are the taken ones
  pub own_seen : Own s.image (registers_of s) (counted (world_before s) (start_of s ∷ s.since)) (after (fresh ram store) calls)
  unfolding image_in
  own_seen =
      let n = counted (world_before s) (start_of s ∷ s.since) in
      subst (λ (cs : List Call). Own s.image (registers_of s) n (after (fresh ram store) cs)) (sym s.whole)
      (subst (λ (regs : List ℕ). Own s.image regs n (after (fresh ram store) (s.before ++ (start_of s ∷ s.since)))) registers_same
      (own_frame ram store s.before (start_of s) s.since start_held))

  -- Half seen: a pixel in whose two bytes no call landed since is the fresh picture's if the cycles counted since the start reach its cycle,
  -- and else what it was at the start
  pub half_seen : (j : ℕ) → j < 14336 → ((d : ℕ) → d < 2 → landed_seen (tiles.place (j % 128) (j / 128) + d) (world_after s) s.since ≡ false)
      → shade_in (after (fresh ram store) calls).ram (j % 128) (j / 128)
      ≡ pick (leb (cycle_of (registers_of s) j) (counted (world_before s) (start_of s ∷ s.since)))
      (picture_shade (lit_of s.image (setting_of (registers_of s))) (registers_of s) (j % 128) (j / 128))
      (shade_in (world_before s).ram (j % 128) (j / 128))
  unfolding image_in
  half_seen j most left =
      let n = counted (world_before s) (start_of s ∷ s.since) in
      ap (λ (cs : List Call). shade_in (after (fresh ram store) cs).ram (j % 128) (j / 128)) s.whole
      ∙ half_picture ram store s.before (start_of s) s.since j most start_held
      (λ p here. landed_same s.since _ _ m_after p ∙ of_pixel_lem (λ (q : ℕ). landed_seen q (world_after s) s.since ≡ false) j left p here)
      ∙ ap
      (λ (regs : List ℕ).
      pick (leb (cycle_of regs j) n) (picture_shade (lit_of s.image (setting_of regs)) regs (j % 128) (j / 128)) (shade_in (world_before s).ram (j % 128) (j / 128)))
      registers_same

  module _ (last : Call) where
    all_calls : calls ++ (last ∷ []) ≡ s.before ++ (start_of s ∷ (s.since ++ (last ∷ [])))
    all_calls = ap (λ (cs : List Call). cs ++ (last ∷ [])) s.whole ∙ append_assoc s.before (start_of s ∷ s.since) (last ∷ [])

    end_now : ends (follow (next (told ram store s.before) (start_of s)) s.since) last ≡ end_seen (after (fresh ram store) calls) last
    end_now = end_same _ _ (moment_after s.since _ _ m_after) last ∙ ap (λ (w : World). end_seen w last) (sym world_same)

    -- Total ends: a capture whose counts add up to its total with a call that is no reset is seen to end in that call
    pub total_ends : is_reset last ≡ false → counts_of s last ≡ total_of (registers_of s) → end_seen (after (fresh ram store) calls) last ≡ true
    total_ends r e =
        either (end_seen (after (fresh ram store) calls) last) (λ h. h)
        (λ on.
        let more : Held (told ram store s.before) (start_of s) (s.since ++ (last ∷ [])) =
        record { begins = start_held.begins; goes = goes_more s.since _ last start_held.goes r (end_now ∙ on) } in
        absurd (omega (arith, e, total_same, cycles_below ram store s.before (start_of s) (s.since ++ (last ∷ [])) more)))

    module _ (h : end_seen (after (fresh ram store) calls) last ≡ true) where
      ended_whole : Whole (told ram store s.before) (start_of s) s.since last
      ended_whole = record { held = start_held; over = end_now ∙ h }

      -- Cycles seen: the counts returned since the start add up to the total of the registers at it
      pub ended_cycles : counts_of s last ≡ total_of (registers_of s)
      ended_cycles = cycles ram store s.before (start_of s) s.since last ended_whole ∙ total_same

      -- Picture seen: where no bus write landed in the area since, it is the picture afresh
      pub ended_picture : Bytes ram → bytes_in (calls ++ (last ∷ [])) ≡ true → AreaLeft (world_after s) s.since
          → area_of (after (fresh ram store) (calls ++ (last ∷ []))).ram ≡ afresh_of s
      unfolding image_in
      ended_picture first bytes left =
          rw all_calls
          (picture ram store s.before (start_of s) s.since last ended_whole (λ p here. landed_same s.since _ _ m_after p ∙ left p here) first (rw all_calls at bytes)
          ∙ ap (afresh s.image) registers_same)

      -- Plate seen: and the file exported of it is the file of the picture afresh
      pub ended_plate : Bytes ram → bytes_in (calls ++ (last ∷ [])) ≡ true → AreaLeft (world_after s) s.since
          → plate_of (after (fresh ram store) (calls ++ (last ∷ []))).ram ≡ plate_afresh (lit_of s.image (setting_of (registers_of s))) (registers_of s)
      unfolding image_in
      ended_plate first bytes left =
          rw all_calls
          (plate ram store s.before (start_of s) s.since last ended_whole (λ p here. landed_same s.since _ _ m_after p ∙ left p here) first (rw all_calls at bytes)
          ∙ ap (λ (regs : List ℕ). plate_afresh (lit_of s.image (setting_of regs)) regs) registers_same)

      -- Picture stays: through any calls after it, with no capture held and none that landed in the area
      pub ended_stays : Bytes ram → bytes_in (calls ++ (last ∷ [])) ≡ true → AreaLeft (world_after s) s.since
          → (later : List Call) → idle_through (after (fresh ram store) (calls ++ (last ∷ []))) later ≡ true → AreaLeft (after (fresh ram store) (calls ++ (last ∷ []))) later
          → area_of (after (after (fresh ram store) (calls ++ (last ∷ []))) later).ram ≡ afresh_of s
      ended_stays first bytes left later idle on =
          area_stays later _ _ (moment_after (calls ++ (last ∷ [])) _ _ (at_reset_lem ram store)) idle on ∙ ended_picture first bytes left

-- Only start: calls have one start at most since which a capture was held all through
pub only_start : {ram store : List ℕ} {calls : List Call} (s other : Start ram store calls) → OneStart s other
only_start {ram} {store} s other =
    let o = one_split other.before s.before (start_of other) (start_of s) other.since s.since (fresh ram store) (sym other.whole ∙ s.whole) other.begins other.through s.begins s.through in
    record { before = o.0; start = o.1; since = o.2 }

-- what is told of a start is seen of it
module _ (ram store : List ℕ) (before : List Call) (start : Call) (between : List Call) where
  m_first : Moment (told ram store before) (after (fresh ram store) before)
  m_first = moment_after before _ _ (at_reset_lem ram store)

  -- Held seen: a capture that goes on is seen to be held all through
  pub goes_seen : Held (told ram store before) start between → held_through (leaves (after (fresh ram store) before) start) between ≡ true
  goes_seen h = goes_held between _ _ (moment_next _ _ m_first start) (start_of_lem _ start h.begins).held h.goes

  -- Landed seen: what landed since is seen to have landed
  pub landed_seen_lem : (p : ℕ) → landed p (next (told ram store before) start) between ≡ landed_seen p (leaves (after (fresh ram store) before) start) between
  landed_seen_lem p = landed_same between _ _ (moment_next _ _ m_first start) p

told_start : (ram store : List ℕ) (calls before : List Call) (start : Call) (between : List Call) → calls ≡ before ++ (start ∷ between)
    → Held (told ram store before) start between → Start ram store calls
unfolding starts
told_start ram store calls before reset between e h = not_both h.begins refl
told_start ram store calls before (read rom a) between e h = not_both h.begins refl
told_start ram store calls before (write image a v) between e h = record {
  before = before;
  image = image;
  address = a;
  byte = v;
  since = between;
  whole = e;
  begins = sym (starts_seen_lem ram store before (write image a v)) ∙ h.begins;
  through = goes_seen ram store before (write image a v) between h;
}
told_start ram store calls before (tick n) between e h = not_both h.begins refl
told_start ram store calls before inspect between e h = not_both h.begins refl
told_start ram store calls before (choose light level plain exposure) between e h = not_both h.begins refl
told_start ram store calls before (place file) between e h = not_both h.begins refl

-- Begun seen: whenever a capture is held, the calls hold its start, and it was held all through since
pub begun_seen : (ram store : List ℕ) (calls : List Call) → (after (fresh ram store) calls).state.held ≡ true → Start ram store calls
begun_seen ram store calls h =
    let b = one_start ram store calls h in
    told_start ram store calls b.before b.start b.between b.whole b.held

held_first : (w : World) (k : Call) → end_seen w k ≡ true → w.state.held ≡ true
unfolding end_seen
held_first w k h = both_left w.state.held _ h

-- End seen: from reset, any calls; a capture is held before a call that is no reset, and after that call none is held. Then there is one
-- start since which it was held all through; the counts returned since add up to the total of the registers at that start; and if no bus
-- write landed in the picture area since, the area is the picture afresh from the image lent at that start and those registers
pub end_seen_lem : (ram store : List ℕ) (calls : List Call) (last : Call) → end_seen (after (fresh ram store) calls) last ≡ true → Ended ram store calls last
end_seen_lem ram store calls last h =
    let s : Start ram store calls = begun_seen ram store calls (held_first (after (fresh ram store) calls) last h) in
    record { start = s; one = only_start s; cycles = ended_cycles s last h; picture = ended_picture s last h }

-- what is left of the one start is left of the other
pub one_left : {ram store : List ℕ} {calls : List Call} {s other : Start ram store calls} → OneStart s other → AreaLeft (world_after other) other.since → AreaLeft (world_after s) s.since
one_left {ram} {store} {calls} {s} {other} o left =
    subst (λ (cs : List Call). AreaLeft (world_after s) cs) o.since
    (subst (λ (k : Call). AreaLeft (leaves (after (fresh ram store) s.before) k) other.since) o.start
    (subst (λ (cs : List Call). AreaLeft (leaves (after (fresh ram store) cs) (start_of other)) other.since) o.before left))
