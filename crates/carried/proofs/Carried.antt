-- Demand 3 for bytes: exported calls that hand on the state's bytes, the RAM and the frame store, from the bytes of reset on. Assumes nothing.
use mathlib.Core.Path.{◌≡◌, refl, sym, ap, subst, ◌∙◌}
use mathlib.Core.Bool.{true, false}
use mathlib.Core.List.{List, [], ◌∷◌, ◌++◌, map, map-append, append_inj, length-map, head-eq_of_cons-eq, tail-eq_of_cons-eq}
use mathlib.Core.List as lists
use Prim.Native.Nat.{ℕ, ◌%◌}
use lib.ListN.{length, get_or, set}
use borrow.Author.Tests.{eq-eqb}
use Rattle.laws.proofs.Bools.{either, not_both, both_left}
use Rattle.timing.specs.Timing.{total_of}
use Rattle.tiles.specs.Tiles.{area_of, Bytes}
use Rattle.controller.specs.State.{reset_state}
use Rattle.layout.specs.Layout.{encoded, registers_at}
use Rattle.answers.specs.Called.{Called}
use Rattle.embed.proofs.Cases.{reset_done}
use Rattle.history.specs.History as history
use Rattle.history.specs.History.{Call, World, fresh, leaves, after}
use Rattle.history.specs.Seen.{is_reset, in_area, writes_byte, bytes_in, start_seen, end_seen, held_through, landed_seen, AreaLeft, Start, registers_of, counts_of, afresh}
use Rattle.history.proofs.Track.{Track, starts, next, follow, told}
use Rattle.history.proofs.Observed.{starts_seen_lem, outside_seen, only_start, ended_cycles, ended_picture, total_ends}
use Rattle.carried.specs.Exported.{Kept, Export, reset, read, write, tick, inspect, choose, place, call_of, at_reset, hands, hands_on, counted, fits, all_fit}
use Rattle.carried.specs.Shown.{held_in, start_shown, end_shown, held_on, landed_shown, AreaKept, last_shown, Begun, start_in, bytes_before, bytes_after, registers_in, OneBegun, Finished}
use Rattle.carried.proofs.Fits.{Now, now_reset, now_next, now_whole}
use Rattle.carried.proofs.Handed.{kept_of, hand_next, registers_same, start_same, end_same, first_fits, hands_on_lem, counted_on, held_on_lem, landed_on, last_on}

-- ---- calls whose numbers fit

all_fit_lem : (k : Export) (cs : List Export) → fits k ≡ true → all_fit cs ≡ true → all_fit (k ∷ cs) ≡ true
unfolding all_fit
all_fit_lem k cs p q = rw (p, q)

-- each part of them
left_fits : (xs ys : List Export) → all_fit (xs ++ ys) ≡ true → all_fit xs ≡ true
left_fits [] ys f = unfold all_fit in refl
left_fits (k ∷ xs) ys f = let g = first_fits k (xs ++ ys) f in all_fit_lem k xs g.0 (left_fits xs ys g.1)

right_fits : (xs ys : List Export) → all_fit (xs ++ ys) ≡ true → all_fit ys ≡ true
right_fits [] ys f = f
right_fits (k ∷ xs) ys f = right_fits xs ys (first_fits k (xs ++ ys) f).1

both_fit : (xs ys : List Export) → all_fit xs ≡ true → all_fit ys ≡ true → all_fit (xs ++ ys) ≡ true
both_fit [] ys f g = g
both_fit (k ∷ xs) ys f g = let h = first_fits k xs f in all_fit_lem k (xs ++ ys) h.0 (both_fit xs ys h.1 g)

-- what they write are bytes
fits_byte : (k : Export) → fits k ≡ true → writes_byte (call_of k) ≡ true
unfolding fits writes_byte call_of
fits_byte reset f = refl
fits_byte (read rom a) f = refl
fits_byte (write image a v) f = f
fits_byte (tick n) f = refl
fits_byte inspect f = refl
fits_byte (choose light level plain exposure) f = refl
fits_byte (place file) f = refl

fit_bytes : (cs : List Export) → all_fit cs ≡ true → bytes_in (map call_of cs) ≡ true
unfolding bytes_in
fit_bytes [] f = refl
fit_bytes (k ∷ cs) f = let g = first_fits k cs f in rw (fits_byte k g.0, fit_bytes cs g.1)

now_after : (cs : List Export) (t : Track) (w : World) → Now t w → all_fit cs ≡ true → Now (follow t (map call_of cs)) (after w (map call_of cs))
unfolding follow after
now_after [] t w n f = n
now_after (k ∷ cs) t w n f = let g = first_fits k cs f in now_after cs (next t (call_of k)) (leaves w (call_of k)) (now_next t w n k g.0) g.1

-- ---- from the bytes of reset

-- After reset: whatever 121 bytes the state is, the exported reset hands on the bytes of reset
pub after_reset : (b : Kept) → length b.state ≡ 121 → hands b reset ≡ at_reset b.ram b.store
unfolding hands
after_reset b l = ap (λ (o : Called). record { state = o.state; ram = b.ram; store = b.store }) (reset_done b.state (eq-eqb _ _ l))

module _ (ram store : List ℕ) (cs : List Export) (f : all_fit cs ≡ true) where
  -- Handed on: what any calls hand on from the bytes of reset on is the record's bytes, the RAM and the frame store that the calls of the
  -- controller leave
  pub handed : hands_on (at_reset ram store) cs ≡ kept_of (after (fresh ram store) (map call_of cs))
  handed = hands_on_lem cs _ (fresh ram store) (now_reset ram store) f

  now_at : Now (told ram store (map call_of cs)) (after (fresh ram store) (map call_of cs))
  now_at = now_after cs _ (fresh ram store) (now_reset ram store) f

  -- Starts shown, ends shown: the next call is shown to be a start just where the calls tell so, and a capture to end in it just where it
  -- is seen to end
  pub starts_shown : (k : Export) → fits k ≡ true → start_shown (hands_on (at_reset ram store) cs) k ≡ starts (told ram store (map call_of cs)) (call_of k)
  starts_shown k g = ap (λ (b : Kept). start_shown b k) handed ∙ start_same _ _ now_at k g ∙ sym (starts_seen_lem ram store (map call_of cs) (call_of k))

  pub ends_shown : (k : Export) → fits k ≡ true → end_shown (hands_on (at_reset ram store) cs) k ≡ end_seen (after (fresh ram store) (map call_of cs)) (call_of k)
  ends_shown k g = ap (λ (b : Kept). end_shown b k) handed ∙ end_same _ _ now_at k g

  -- Outside shown: each RAM byte outside the picture area is the last bus write that landed there, or what it held at first
  pub outside_shown : (p : ℕ) → in_area p ≡ false → get_or (hands_on (at_reset ram store) cs).ram p 0 ≡ last_shown p (at_reset ram store) cs (get_or ram p 0)
  outside_shown p out =
      ap (λ (b : Kept). get_or b.ram p 0) handed
      ∙ outside_seen ram store (map call_of cs) p out
      ∙ sym (ap (λ (l : ℕ → ℕ). l (get_or ram p 0)) (last_on p cs _ (fresh ram store) (now_reset ram store) f))

-- ---- calls before, a call, and calls since

module _ (ram store : List ℕ) (before : List Export) (start : Export) (since : List Export) (f : all_fit (before ++ (start ∷ since)) ≡ true) where
  before_fits : all_fit before ≡ true
  before_fits = left_fits before (start ∷ since) f

  since_fits : (fits start ≡ true) × (all_fit since ≡ true)
  since_fits = first_fits start since (right_fits before (start ∷ since) f)

  abbrev world : World
  world = after (fresh ram store) (map call_of before)

  now_before : Now (told ram store (map call_of before)) world
  now_before = now_at ram store before before_fits

  now_since : Now (next (told ram store (map call_of before)) (call_of start)) (leaves world (call_of start))
  now_since = now_next _ _ now_before start since_fits.0

  since_same : hands (hands_on (at_reset ram store) before) start ≡ kept_of (leaves world (call_of start))
  since_same = ap (λ (b : Kept). hands b start) (handed ram store before before_fits) ∙ hand_next world (now_whole _ _ now_before) start

  -- what is shown since is what is seen since
  pub held_since : held_on (hands (hands_on (at_reset ram store) before) start) since ≡ held_through (leaves world (call_of start)) (map call_of since)
  held_since = ap (λ (b : Kept). held_on b since) since_same ∙ held_on_lem since _ _ now_since since_fits.1

  pub landed_since : (p : ℕ) → landed_shown p (hands (hands_on (at_reset ram store) before) start) since ≡ landed_seen p (leaves world (call_of start)) (map call_of since)
  landed_since p = ap (λ (b : Kept). landed_shown p b since) since_same ∙ landed_on p since _ _ now_since since_fits.1

-- ---- what a start that is shown comes to

module _ {ram store : List ℕ} {calls : List Export} (s : Begun ram store calls) (f : all_fit calls ≡ true) where
  whole_fits : all_fit (s.before ++ (start_in s ∷ s.since)) ≡ true
  whole_fits = rw (← s.whole) f

  abbrev w₀ : World
  w₀ = after (fresh ram store) (map call_of s.before)

  n₀ : Now (told ram store (map call_of s.before)) w₀
  n₀ = now_before ram store s.before (start_in s) s.since whole_fits

  start_fits : fits (start_in s) ≡ true
  start_fits = (since_fits ram store s.before (start_in s) s.since whole_fits).0

  before_same : bytes_before s ≡ kept_of w₀
  before_same = handed ram store s.before (before_fits ram store s.before (start_in s) s.since whole_fits)

  split_same : map call_of calls ≡ map call_of s.before ++ (call_of (start_in s) ∷ map call_of s.since)
  split_same = ap (map call_of) s.whole ∙ map-append call_of s.before (start_in s ∷ s.since)

  begins_same : start_seen w₀ (call_of (start_in s)) ≡ true
  begins_same = sym (ap (λ (b : Kept). start_shown b (start_in s)) before_same ∙ start_same _ _ n₀ (start_in s) start_fits) ∙ s.begins

  through_same : held_through (leaves w₀ (call_of (start_in s))) (map call_of s.since) ≡ true
  through_same = sym (held_since ram store s.before (start_in s) s.since whole_fits) ∙ s.through

  -- it is a start of the controller's calls
  abbrev started : Start ram store (map call_of calls)
  started = record {
    before = map call_of s.before;
    image = s.image;
    address = s.address;
    byte = s.byte;
    since = map call_of s.since;
    whole = unfold call_of in split_same;
    begins = unfold call_of in begins_same;
    through = unfold call_of in through_same;
  }

  regs_same : registers_in s ≡ registers_of started
  regs_same =
      ap (λ (b : Kept). set (registers_at b.state 13) 0 (s.byte % 8)) before_same
      ∙ ap (λ (l : List ℕ). set l 0 (s.byte % 8)) (registers_same w₀ (now_whole _ _ n₀))

  module _ (last : Export) (g : fits last ≡ true) where
    one_fits : all_fit (last ∷ []) ≡ true
    one_fits = all_fit_lem last [] g (unfold all_fit in refl)

    count_all : counted (bytes_before s) (start_in s ∷ (s.since ++ (last ∷ []))) ≡ counts_of started (call_of last)
    unfolding call_of
    count_all =
        let cs : List Export = start_in s ∷ (s.since ++ (last ∷ [])) in
        ap (λ (b : Kept). counted b cs) before_same
        ∙ counted_on cs _ w₀ n₀ (all_fit_lem (start_in s) (s.since ++ (last ∷ [])) start_fits (both_fit s.since (last ∷ []) (since_fits ram store s.before (start_in s) s.since whole_fits).1 one_fits))
        ∙ ap (λ (l : List Call). history.counted w₀ (call_of (start_in s) ∷ l)) (map-append call_of s.since (last ∷ []))

    -- Total shown: a capture whose counts add up to its total with a call that is no reset is shown to end in that call
    pub total_shown : is_reset (call_of last) ≡ false → counted (bytes_before s) (start_in s ∷ (s.since ++ (last ∷ []))) ≡ total_of (registers_in s)
        → end_shown (hands_on (at_reset ram store) calls) last ≡ true
    total_shown r e =
        ends_shown ram store calls f last g
        ∙ total_ends started (call_of last) r (sym count_all ∙ e ∙ ap total_of regs_same)

    module _ (h : end_shown (hands_on (at_reset ram store) calls) last ≡ true) where
      over : end_seen (after (fresh ram store) (map call_of calls)) (call_of last) ≡ true
      over = sym (ends_shown ram store calls f last g) ∙ h

      cycles_shown : counted (bytes_before s) (start_in s ∷ (s.since ++ (last ∷ []))) ≡ total_of (registers_in s)
      cycles_shown = count_all ∙ ended_cycles started (call_of last) over ∙ ap total_of (sym regs_same)

      picture_shown : Bytes ram → AreaKept (bytes_after s) s.since
          → area_of (hands_on (at_reset ram store) (calls ++ (last ∷ []))).ram ≡ afresh s.image (registers_in s)
      unfolding call_of
      picture_shown first left =
          let fit : all_fit (calls ++ (last ∷ [])) ≡ true = both_fit calls (last ∷ []) f one_fits in
          let m : map call_of (calls ++ (last ∷ [])) ≡ map call_of calls ++ (call_of last ∷ []) = map-append call_of calls (last ∷ []) in
          ap (λ (b : Kept). area_of b.ram) (handed ram store (calls ++ (last ∷ [])) fit)
          ∙ ap (λ (l : List Call). area_of (after (fresh ram store) l).ram) m
          ∙ ended_picture started (call_of last) over first (rw m at (fit_bytes (calls ++ (last ∷ [])) fit)) area_left
          ∙ ap (afresh s.image) (sym regs_same)
        where
          area_left : AreaLeft (leaves w₀ (call_of (start_in s))) (map call_of s.since)
          area_left p here = sym (landed_since ram store s.before (start_in s) s.since whole_fits p) ∙ left p here

-- ---- one start

-- Only begun: calls have one start at most since which a capture was held all through
pub only_begun : {ram store : List ℕ} {calls : List Export} (s other : Begun ram store calls) → all_fit calls ≡ true → OneBegun s other
only_begun s other f =
    let o = only_start (started s f) (started other f) in
    let l : lists.length other.before ≡ lists.length s.before =
    sym (length-map other.before call_of) ∙ ap lists.length o.before ∙ length-map s.before call_of in
    let p = append_inj (sym other.whole ∙ s.whole) l in
    record { before = p.0; start = head-eq_of_cons-eq p.1; since = tail-eq_of_cons-eq p.1 }

first_held : (cs : List Export) (b : Kept) → held_on b cs ≡ true → held_in b ≡ true
unfolding held_on
first_held [] b h = h
first_held (k ∷ cs) b h = both_left (held_in b) (held_on (hands b k) cs) h

-- a capture held at the end of a list of calls was held all through, or one of them is its start
since_start {ℓ} : {X : Type ℓ} (cs : List Export) (b : Kept) → held_in (hands_on b cs) ≡ true
    → (held_on b cs ≡ true → X)
    → ((before : List Export) (start : Export) (since : List Export) → cs ≡ before ++ (start ∷ since)
    → start_shown (hands_on b before) start ≡ true → held_on (hands (hands_on b before) start) since ≡ true → X)
    → X
unfolding hands_on held_on start_shown
since_start [] b h f g = f h
since_start (k ∷ cs) b h f g =
    since_start cs (hands b k) h
    (λ on.
    either (held_in b)
    (λ yes. f (rw (yes, on)))
    (λ no. g [] k cs refl (rw (no, first_held cs (hands b k) on)) on))
    (λ before start since e p q. g (k ∷ before) start since (ap (λ (l : List Export). k ∷ l) e) p q)

module _ (ram store : List ℕ) (calls : List Export) (f : all_fit calls ≡ true) where
  -- a start is a write
  by_kind : (before : List Export) (k : Export) (since : List Export) → calls ≡ before ++ (k ∷ since)
      → start_shown (hands_on (at_reset ram store) before) k ≡ true → held_on (hands (hands_on (at_reset ram store) before) k) since ≡ true
      → starts (told ram store (map call_of before)) (call_of k) ≡ true → Begun ram store calls
  unfolding starts call_of
  by_kind before reset since e p q h = not_both h refl
  by_kind before (read rom a) since e p q h = not_both h refl
  by_kind before (write image a v) since e p q h = record { before = before; image = image; address = a; byte = v; since = since; whole = e; begins = p; through = q }
  by_kind before (tick n) since e p q h = not_both h refl
  by_kind before inspect since e p q h = not_both h refl
  by_kind before (choose light level plain exposure) since e p q h = not_both h refl
  by_kind before (place file) since e p q h = not_both h refl

  begun_at : (before : List Export) (start : Export) (since : List Export) → calls ≡ before ++ (start ∷ since)
      → start_shown (hands_on (at_reset ram store) before) start ≡ true → held_on (hands (hands_on (at_reset ram store) before) start) since ≡ true → Begun ram store calls
  begun_at before start since e p q =
      let fit : all_fit (before ++ (start ∷ since)) ≡ true = rw (← e) f in
      by_kind before start since e p q
      (sym (starts_shown ram store before (before_fits ram store before start since fit) start (since_fits ram store before start since fit).0) ∙ p)

  -- Begun shown: whenever byte 4 of the state says that a capture is held, the calls hold its start, and it was held all through since
  pub begun_shown : held_in (hands_on (at_reset ram store) calls) ≡ true → Begun ram store calls
  unfolding encoded reset_state
  begun_shown h = since_start calls (at_reset ram store) h (λ on. not_both (first_held calls (at_reset ram store) on) refl) begun_at

-- End shown: exported calls, refused ones too, from the bytes of reset on, each lent the state's bytes, the RAM and the frame store as the
-- last one left them; a capture is held before a call that is no reset, and after that call none is held. Then there is one start since
-- which it was held all through; the counts returned since add up to the total of the registers at that start; and if no bus write landed
-- in the picture area since, the area is the picture afresh from the image lent at that start and those registers
pub end_shown_lem : (ram store : List ℕ) (calls : List Export) (last : Export) → all_fit (calls ++ (last ∷ [])) ≡ true
    → end_shown (hands_on (at_reset ram store) calls) last ≡ true → Finished ram store calls last
unfolding end_shown
end_shown_lem ram store calls last fit h =
    let f : all_fit calls ≡ true = left_fits calls (last ∷ []) fit in
    let g : fits last ≡ true = (first_fits last [] (right_fits calls (last ∷ []) fit)).0 in
    let s : Begun ram store calls = begun_shown ram store calls f (both_left (held_in (hands_on (at_reset ram store) calls)) _ h) in
    record {
      start = s;
      one = λ other. only_begun s other f;
      cycles = cycles_shown s f last g h;
      picture = picture_shown s f last g h;
    }

-- what is kept of the one start is kept of the other
pub one_kept : {ram store : List ℕ} {calls : List Export} {s other : Begun ram store calls} → OneBegun s other → AreaKept (bytes_after other) other.since → AreaKept (bytes_after s) s.since
one_kept {ram} {store} {calls} {s} {other} o left =
    subst (λ (cs : List Export). AreaKept (bytes_after s) cs) o.since
    (subst (λ (k : Export). AreaKept (hands (hands_on (at_reset ram store) s.before) k) other.since) o.start
    (subst (λ (cs : List Export). AreaKept (hands (hands_on (at_reset ram store) cs) (start_in other)) other.since) o.before left))
