-- What is told of a capture, from its start on: nothing but a reset and its own end changes whose it is. Assumes nothing.
use mathlib.Core.Path.{◌≡◌, refl, sym, ap, ◌∙◌}
use mathlib.Core.Bool.{Bool, true, false, not, ◌&&◌, and-false}
use mathlib.Core.List.{List, [], ◌∷◌, ◌++◌}
use Prim.Native.Nat.{ℕ, ◌+◌, ◌%◌}
use native.Mathlib.Nat.{add-zero, zero-add, add_assoc}
use lib.Dec.{eqb, ltb}
use borrow.Author.Tests.{not-true, eqb-true}
use Rattle.laws.specs.Bits.{is_set}
use Rattle.laws.proofs.Pick.{pick_ind}
use Rattle.laws.proofs.Bools.{either, not_both, both_left, both_right}
use Rattle.timing.specs.Timing.{total_of}
use Rattle.std.specs.declared.option.Option.{Option}
use Rattle.history.specs.History.{Call, reset, read, write, tick, inspect, choose, place, World, fresh, leaves, answers, count_in, after, counted}
use Rattle.history.specs.Seen.{is_reset}
use Rattle.history.proofs.Track.{Capture, Track, at_reset, write_accepted, choice_accepted, runs_in, ends, to_registers, starts, image_in, registers_at, enabling, selecting, storing, beginning, running, ending, controlled, registered, written, next, follow, told}
use Rattle.history.proofs.Since.{goes_on, Held, Whole}
use Rattle.history.proofs.Follows.{Moment, at_reset_lem, moment_next, moment_after, count_next}

-- a capture is held with this image, these registers, after so many cycles
pub record Of (lent regs : List ℕ) (n : ℕ) (c : Capture) : Type 0 where
  pub held : c.held ≡ true
  pub image : c.image ≡ lent
  pub taken : c.taken ≡ regs
  pub ran : c.ran ≡ n

-- ---- a start

pub start_of_lem : (t : Track) (k : Call) → starts t k ≡ true → Of (image_in k) (registers_at t k) 0 (next t k).capture
unfolding starts to_registers image_in registers_at next written registered beginning
start_of_lem t reset h = not_both h refl
start_of_lem t (read rom a) h = not_both h refl
start_of_lem t (write image a v) h =
    let ok = write_accepted t image a in
    let high = not (ltb a 0x8000) in
    let regs = is_set t.select 4 in
    let zeroth = eqb (a % 128) 0 in
    let new = eqb (v % 2) 1 && not t.capture.held in
    let l : (ok && (high && regs)) ≡ true = both_left (ok && (high && regs)) (zeroth && new) h in
    let r : (zeroth && new) ≡ true = both_right (ok && (high && regs)) (zeroth && new) h in
    let q : (high && regs) ≡ true = both_right ok (high && regs) l in
    rw (both_left ok (high && regs) l, not-true (ltb a 0x8000) (both_left high regs q), both_right high regs q, both_left zeroth new r, both_right zeroth new r)
    (record { held = refl; image = refl; taken = refl; ran = refl })
start_of_lem t (tick n) h = not_both h refl
start_of_lem t inspect h = not_both h refl
start_of_lem t (choose light level plain exposure) h = not_both h refl
start_of_lem t (place file) h = not_both h refl

-- a start runs no cycle
pub start_count : (t : Track) (k : Call) → starts t k ≡ true → runs_in t k ≡ 0
unfolding starts runs_in
start_count t reset h = refl
start_count t (read rom a) h = refl
start_count t (write image a v) h = refl
start_count t (tick n) h = not_both h refl
start_count t inspect h = refl
start_count t (choose light level plain exposure) h = refl
start_count t (place file) h = refl

-- ---- a call that does not end it

module _ {image taken : List ℕ} {ran : ℕ} (t : Track) (o : Of image taken ran t.capture) where
  abbrev Same : Track → Type 0
  Same u = Of image taken ran u.capture

  control_same : (a v : ℕ) → Same (controlled t a v)
  unfolding controlled enabling selecting
  control_same a v =
      pick_ind Same (ltb a 0x2000)
      (λ _. pick_ind Same (eqb v 0x0A) (λ _. o) (λ _. pick_ind Same (eqb v 0x00) (λ _. o) (λ _. o)))
      (λ _. pick_ind Same (ltb a 0x4000) (λ _. o) (λ _. pick_ind Same (ltb a 0x6000) (λ _. o) (λ _. o)))

  registers_same : (lent : List ℕ) (i v : ℕ) → Same (registered t lent i v)
  unfolding registered storing
  registers_same lent i v =
      pick_ind Same (eqb i 0)
      (λ _.
      pick_ind Same (eqb (v % 2) 1 && not t.capture.held)
      (λ new. not_both o.held (not-true t.capture.held (both_right (eqb (v % 2) 1) (not t.capture.held) new)))
      (λ _. o))
      (λ _. pick_ind Same (ltb i 54) (λ _. o) (λ _. o))

  written_same : (lent : List ℕ) (a v : ℕ) → Same (next t (write lent a v))
  unfolding next written
  written_same lent a v =
      pick_ind Same (write_accepted t lent a)
      (λ _. pick_ind Same (ltb a 0x8000) (λ _. control_same a v) (λ _. pick_ind Same (is_set t.select 4) (λ _. registers_same lent (a % 128) v) (λ _. o)))
      (λ _. o)

  chosen_same : (light level : ℕ) (plain : Bool) (exposure : Option ℕ) → Same (next t (choose light level plain exposure))
  unfolding next storing
  chosen_same light level plain exposure = pick_ind Same (choice_accepted light level) (λ _. o) (λ _. o)

  more : (u : Track) → Same u → Of image taken (ran + 0) u.capture
  more u s = rw (add-zero ran) s

  -- it goes on with the image and the registers of its start, and with the call's cycles
  pub goes_next : (k : Call) → is_reset k ≡ false → ends t k ≡ false → Of image taken (ran + runs_in t k) (next t k).capture
  unfolding is_reset runs_in next running
  goes_next reset r e = not_both refl r
  goes_next (read rom a) r e = more t o
  goes_next (write lent a v) r e = more (next t (write lent a v)) (written_same lent a v)
  goes_next (tick n) r e = rw e (record { held = o.held; image = o.image; taken = o.taken; ran = ap (λ (x : ℕ). x + runs_in t (tick n)) o.ran })
  goes_next inspect r e = more t o
  goes_next (choose light level plain exposure) r e = more (next t (choose light level plain exposure)) (chosen_same light level plain exposure)
  goes_next (place file) r e = more t o

-- ---- calls through which it goes on

-- what the first call must be
pub first_goes : (t : Track) (k : Call) (cs : List Call) → goes_on t (k ∷ cs) ≡ true → (is_reset k ≡ false) × (ends t k ≡ false) × (goes_on (next t k) cs ≡ true)
unfolding goes_on
first_goes t k cs g =
    let here = not (is_reset k) && not (ends t k) in
    let l : here ≡ true = both_left here (goes_on (next t k) cs) g in
    (not-true _ (both_left (not (is_reset k)) (not (ends t k)) l), not-true _ (both_right (not (is_reset k)) (not (ends t k)) l), both_right here (goes_on (next t k) cs) g)

-- it is held through them with the image and the registers of its start, and its cycles are the counts returned
pub goes_through : {image taken : List ℕ} {ran : ℕ} (cs : List Call) (t : Track) (w : World) → Moment t w → Of image taken ran t.capture → goes_on t cs ≡ true
    → Of image taken (ran + counted w cs) (follow t cs).capture
unfolding follow counted
goes_through {image = image} {taken = taken} {ran = ran} [] t w m o g = rw (add-zero ran) o
goes_through {image = image} {taken = taken} {ran = ran} (k ∷ cs) t w m o g =
    let f = first_goes t k cs g in
    rw (count_next t w m k, ← add_assoc ran (runs_in t k) (counted (leaves w k) cs))
    (goes_through {ran = ran + runs_in t k} cs (next t k) (leaves w k) (moment_next t w m k) (goes_next t o k f.0 f.1) f.2)

-- ---- the call in which it ends

pub end_count : (t : Track) (k : Call) → ends t k ≡ true → (t.capture.held ≡ true) × (t.capture.ran + runs_in t k ≡ total_of t.capture.taken)
unfolding ends
end_count t reset h = not_both h refl
end_count t (read rom a) h = not_both h refl
end_count t (write image a v) h = not_both h refl
end_count t (tick n) h = (both_left t.capture.held _ h, eqb-true _ _ (both_right t.capture.held _ h))
end_count t inspect h = not_both h refl
end_count t (choose light level plain exposure) h = not_both h refl
end_count t (place file) h = not_both h refl

pub end_next : (t : Track) (k : Call) → ends t k ≡ true → (next t k).capture.held ≡ false
end_next t reset h = unfold ends in not_both h refl
end_next t (read rom a) h = unfold ends in not_both h refl
end_next t (write image a v) h = unfold ends in not_both h refl
end_next t (tick n) h = unfold next ending in rw h
end_next t inspect h = unfold ends in not_both h refl
end_next t (choose light level plain exposure) h = unfold ends in not_both h refl
end_next t (place file) h = unfold ends in not_both h refl

-- ---- no capture held

-- after a call that is no start, a capture is held only if one was held before, and the call is no reset and not its end
abbrev Was : Track → Track → Type 0
Was t u = u.capture.held ≡ true → t.capture.held ≡ true

control_was : (t : Track) (a v : ℕ) → Was t (controlled t a v)
unfolding controlled enabling selecting
control_was t a v =
    pick_ind (Was t) (ltb a 0x2000)
    (λ _. pick_ind (Was t) (eqb v 0x0A) (λ _ h. h) (λ _. pick_ind (Was t) (eqb v 0x00) (λ _ h. h) (λ _ h. h)))
    (λ _. pick_ind (Was t) (ltb a 0x4000) (λ _ h. h) (λ _. pick_ind (Was t) (ltb a 0x6000) (λ _ h. h) (λ _ h. h)))

write_was : (t : Track) (image : List ℕ) (a v : ℕ) → starts t (write image a v) ≡ false → Was t (next t (write image a v))
unfolding next written registered storing starts to_registers
write_was t image a v s =
    pick_ind (Was t) (write_accepted t image a)
    (λ ok.
    pick_ind (Was t) (ltb a 0x8000)
    (λ _. control_was t a v)
    (λ high.
    pick_ind (Was t) (is_set t.select 4)
    (λ regs.
    pick_ind (Was t) (eqb (a % 128) 0)
    (λ zeroth. pick_ind (Was t) (eqb (v % 2) 1 && not t.capture.held) (λ new _. not_both (rw (ok, high, regs, zeroth) new) s) (λ _ h. h))
    (λ _. pick_ind (Was t) (ltb (a % 128) 54) (λ _ h. h) (λ _ h. h)))
    (λ _ h. h)))
    (λ _ h. h)

tick_was : (t : Track) (n : ℕ) → (next t (tick n)).capture.held ≡ true → (t.capture.held ≡ true) × (ends t (tick n) ≡ false)
unfolding next ending running
tick_was t n =
    pick_ind (λ (u : Track). u.capture.held ≡ true → (t.capture.held ≡ true) × (ends t (tick n) ≡ false)) (ends t (tick n)) (λ _ h. not_both h refl) (λ e h. (h, e))

choice_was : (t : Track) (light level : ℕ) (plain : Bool) (exposure : Option ℕ) → Was t (next t (choose light level plain exposure))
unfolding next storing
choice_was t light level plain exposure = pick_ind (Was t) (choice_accepted light level) (λ _ h. h) (λ _ h. h)

reset_was : (t : Track) → (next t reset).capture.held ≡ true → ⊥
unfolding next at_reset
reset_was t h = not_both h refl

pub was_held : (t : Track) (k : Call) → starts t k ≡ false → (next t k).capture.held ≡ true → (t.capture.held ≡ true) × (is_reset k ≡ false) × (ends t k ≡ false)
unfolding is_reset
was_held t reset s h = absurd (reset_was t h)
was_held t (read rom a) s h = (unfold next in h, refl, unfold ends in refl)
was_held t (write image a v) s h = (write_was t image a v s h, refl, unfold ends in refl)
was_held t (tick n) s h = ((tick_was t n h).0, refl, (tick_was t n h).1)
was_held t inspect s h = (unfold next in h, refl, unfold ends in refl)
was_held t (choose light level plain exposure) s h = (choice_was t light level plain exposure h, refl, unfold ends in refl)
was_held t (place file) s h = (unfold next in h, refl, unfold ends in refl)

-- no cycle runs, and none is held until a start
pub idle_runs : (t : Track) (k : Call) → t.capture.held ≡ false → runs_in t k ≡ 0
unfolding runs_in
idle_runs t reset h = refl
idle_runs t (read rom a) h = refl
idle_runs t (write image a v) h = refl
idle_runs t (tick n) h = simp (h, and-false)
idle_runs t inspect h = refl
idle_runs t (choose light level plain exposure) h = refl
idle_runs t (place file) h = refl

pub rests_next : (t : Track) (k : Call) → t.capture.held ≡ false → starts t k ≡ false → (runs_in t k ≡ 0) × ((next t k).capture.held ≡ false)
rests_next t k h s = (idle_runs t k h, either (next t k).capture.held (λ on. not_both (was_held t k s on).0 h) (λ off. off))

-- ---- lists of calls

pub counted_append : (xs ys : List Call) (w : World) → counted w (xs ++ ys) ≡ counted w xs + counted (after w xs) ys
unfolding counted after
counted_append [] ys w = sym (zero-add _)
counted_append (k ∷ xs) ys w = ap (λ (x : ℕ). count_in (answers w k) + x) (counted_append xs ys (leaves w k)) ∙ sym (add_assoc _ _ _)

pub after_append : (xs ys : List Call) (w : World) → after w (xs ++ ys) ≡ after (after w xs) ys
unfolding after
after_append [] ys w = refl
after_append (k ∷ xs) ys w = after_append xs ys (leaves w k)

-- ---- from reset: any calls, a start, calls through which its capture goes on

module _ (ram store : List ℕ) (before : List Call) (start : Call) (between : List Call) (h : Held (told ram store before) start between) where
  abbrev pub first : Track
  first = told ram store before

  abbrev pub world : World
  world = after (fresh ram store) before

  pub moment : Moment first world
  moment = moment_after before _ _ (at_reset_lem ram store)

  pub moment_start : Moment (next first start) (leaves world start)
  moment_start = moment_next first world moment start

  abbrev pub now : Track
  now = follow (next first start) between

  abbrev pub world_now : World
  world_now = after (leaves world start) between

  pub moment_now : Moment now world_now
  moment_now = moment_after between (next first start) (leaves world start) moment_start

  -- the world now is what the whole list of calls leaves
  pub same_world : after (fresh ram store) (before ++ (start ∷ between)) ≡ world_now
  unfolding after
  same_world = after_append before (start ∷ between) (fresh ram store)

  -- the counts returned since the start
  pub same_count : counted world (start ∷ between) ≡ counted (leaves world start) between
  unfolding counted
  same_count = rw (count_next first world moment start, start_count first start h.begins, zero-add (counted (leaves world start) between))

  pub begun : Of (image_in start) (registers_at first start) 0 (next first start).capture
  begun = start_of_lem first start h.begins

  pub on : Of (image_in start) (registers_at first start) (counted world (start ∷ between)) now.capture
  on = rw (same_count, ← zero-add (counted (leaves world start) between)) (goes_through between (next first start) (leaves world start) moment_start begun h.goes)

-- ---- and the call in which it reaches its end

module _ (ram store : List ℕ) (before : List Call) (start : Call) (between : List Call) (last : Call) (h : Whole (told ram store before) start between last) where
  abbrev pub now_last : Track
  now_last = now ram store before start between h.held

  abbrev pub world_last : World
  world_last = world_now ram store before start between h.held

  pub moment_last : Moment now_last world_last
  moment_last = moment_now ram store before start between h.held

  -- the world it leaves is what the whole list of calls leaves
  pub whole_world : after (fresh ram store) (before ++ (start ∷ (between ++ (last ∷ [])))) ≡ leaves world_last last
  unfolding after
  whole_world =
      after_append before (start ∷ (between ++ (last ∷ []))) (fresh ram store) ∙ after_append between (last ∷ []) (leaves (after (fresh ram store) before) start)
