-- While a capture is held, the frame store is the light of the image lent at its start, and the taken registers are those of its start. Assumes nothing.
use mathlib.Core.Path.{◌≡◌, refl, sym, ap, ap₂, ◌∙◌}
use mathlib.Core.Bool.{true, false}
use mathlib.Core.List.{List, [], ◌∷◌, ◌++◌}
use Prim.Native.Nat.{ℕ}
use lib.ListN.{length}
use Rattle.laws.proofs.Bools.{either, not_both}
use Rattle.lighting.specs.Taken.{setting_of}
use Rattle.lighting.specs.Light.{light_frame}
use Rattle.history.specs.History.{Call, fresh, after, counted}
use Rattle.history.specs.Seen.{is_reset, Own}
use Rattle.history.proofs.Track.{Track, at_reset, ends, starts, image_in, registers_at, next, follow, told}
use Rattle.history.proofs.Since.{goes_on, Held, Whole, Begun}
use Rattle.history.proofs.Follows.{moment_next, told_true}
use Rattle.history.proofs.Goes.{was_held, end_next, moment_now, on, same_world, now_last, world_last, moment_last, whole_world}

-- Own frame: any calls, a start, any calls through which its capture goes on: the store is the light of the image lent at the start, the taken
-- registers are the registers at the start, and elapsed is the counts returned since, whatever was lent or written meanwhile
pub own_frame : (ram store : List ℕ) (before : List Call) (start : Call) (between : List Call)
    → Held (told ram store before) start between
    → Own (image_in start) (registers_at (told ram store before) start) (counted (after (fresh ram store) before) (start ∷ between)) (after (fresh ram store) (before ++ (start ∷ between)))
own_frame ram store before start between h =
    let m = moment_now ram store before start between h in
    let o = on ram store before start between h in
    let s = m.told.same in
    let held = sym (ap (λ (u : Track). u.capture.held) s) ∙ o.held in
    let taken = sym (ap (λ (u : Track). u.capture.taken) s) ∙ o.taken in
    rw (same_world ram store before start between h)
    (record {
      held = held;
      store = m.told.own held ∙ ap₂ (λ (image regs : List ℕ). light_frame image (setting_of regs)) o.image taken;
      taken = taken;
      elapsed = sym (ap (λ (u : Track). u.capture.ran) s) ∙ o.ran;
    })

-- At its end it is held no more
pub at_end_lem : (ram store : List ℕ) (before : List Call) (start : Call) (between : List Call) (last : Call)
    → Whole (told ram store before) start between last
    → (after (fresh ram store) (before ++ (start ∷ (between ++ (last ∷ []))))).state.held ≡ false
at_end_lem ram store before start between last h =
    let t = now_last ram store before start between last h in
    let w = world_last ram store before start between last h in
    let m = moment_next t w (moment_last ram store before start between last h) last in
    rw (whole_world ram store before start between last h) (sym (ap (λ (u : Track). u.capture.held) m.told.same) ∙ end_next t last h.over)

-- ---- and every capture held has such a start

pub goes_first : (t : Track) (k : Call) (cs : List Call) → is_reset k ≡ false → ends t k ≡ false → goes_on (next t k) cs ≡ true → goes_on t (k ∷ cs) ≡ true
unfolding goes_on
goes_first t k cs r e g = rw (r, e) g

-- a capture held at the end of a list of calls was held all through, or one of them is its start
since {ℓ} : {X : Type ℓ} (cs : List Call) (t : Track) → (follow t cs).capture.held ≡ true
    → (t.capture.held ≡ true → goes_on t cs ≡ true → X)
    → ((before : List Call) (start : Call) (between : List Call) → cs ≡ before ++ (start ∷ between) → Held (follow t before) start between → X)
    → X
unfolding follow goes_on
since [] t h f g = f h refl
since (k ∷ cs) t h f g =
    since cs (next t k) h
    (λ held goes.
    either (starts t k)
    (λ s. g [] k cs refl (record { begins = s; goes = goes }))
    (λ s. let p = was_held t k s held in f p.0 (goes_first t k cs p.1 p.2 goes)))
    (λ before start between e p. g (k ∷ before) start between (ap (λ (l : List Call). k ∷ l) e) p)

-- One start: whenever a capture is held, the calls hold its start, and it went on ever since; so by `own_frame` no plate is of two frames
pub one_start : (ram store : List ℕ) (cs : List Call) → (after (fresh ram store) cs).state.held ≡ true → Begun ram store cs
unfolding at_reset
one_start ram store cs h =
    since cs (at_reset (length ram) (length store))
    (ap (λ (u : Track). u.capture.held) (told_true ram store cs).same ∙ h)
    (λ held _. not_both held refl)
    (λ before start between e p. record { before = before; start = start; between = between; whole = e; held = p })
