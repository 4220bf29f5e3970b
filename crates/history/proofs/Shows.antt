-- What the calls alone tell is what is seen: starts, ends, and where a write lands. Assumes nothing.
use mathlib.Core.Path.{◌≡◌, refl, sym, ap, subst, ◌∙◌}
use mathlib.Core.Bool.{Bool, true, false, not, ◌&&◌, and-false}
use mathlib.Core.List.{List, [], ◌∷◌}
use Prim.Native.Nat.{ℕ, ◌+◌, ◌%◌}
use lib.Dec.{eqb, ltb}
use borrow.Author.Tests.{not-true}
use Rattle.laws.specs.Pick.{pick}
use Rattle.laws.proofs.Bools.{either, not_both, both_right, both_turn}
use Rattle.controller.specs.State.{started}
use Rattle.cartridge.specs.Bus.{registers_on, ram_place}
use Rattle.history.specs.History.{Call, reset, read, write, tick, inspect, choose, place, World, leaves}
use Rattle.history.specs.Seen.{is_reset, start_seen, end_seen, in_area, byte_in, goes_to, goes_in, lands_seen, landed_seen, last_seen, tally, starts_seen, ends_seen}
use Rattle.history.proofs.Track.{Track, at_reset, write_accepted, place_accepted, to_registers, starts, ends, to_ram, place_of, lands, next, seen}
use Rattle.history.proofs.Since.{landed, last_in, tally_told, starts_told, ends_told}
use Rattle.history.proofs.Follows.{Moment, at_reset_lem, moment_next, write_number_lem, place_number}
use Rattle.history.proofs.Goes.{Of, start_of_lem, goes_next, end_count, end_next, was_held}

-- ---- a start and an end, by what is held before and after

-- at a start none is held
start_was : (t : Track) (k : Call) → starts t k ≡ true → t.capture.held ≡ false
unfolding starts
start_was t reset h = not_both h refl
start_was t (read rom a) h = not_both h refl
start_was t (write image a v) h =
    not-true t.capture.held (both_right (eqb (v % 2) 1) _ (both_right (eqb (a % 128) 0) _ (both_right (to_registers t image a) _ h)))
start_was t (tick n) h = not_both h refl
start_was t inspect h = not_both h refl
start_was t (choose light level plain exposure) h = not_both h refl
start_was t (place file) h = not_both h refl

starts_held : (t : Track) (k : Call) → starts t k ≡ (not t.capture.held && (next t k).capture.held)
starts_held t k =
    either (starts t k)
    (λ s. s ∙ sym (rw ((start_of_lem t k s).held, start_was t k s)))
    (λ s. s ∙ sym (either (next t k).capture.held (λ on. rw (was_held t k s on).0) (λ off. rw (off, and-false))))

-- a call in which a capture ends, and one after which it is held, is no reset
end_is : (t : Track) (k : Call) → ends t k ≡ true → is_reset k ≡ false
unfolding ends is_reset
end_is t reset h = not_both h refl
end_is t (read rom a) h = refl
end_is t (write image a v) h = refl
end_is t (tick n) h = refl
end_is t inspect h = refl
end_is t (choose light level plain exposure) h = refl
end_is t (place file) h = refl

pub held_is : (t : Track) (k : Call) → (next t k).capture.held ≡ true → is_reset k ≡ false
unfolding is_reset
held_is t reset h = unfold next at_reset in not_both h refl
held_is t (read rom a) h = refl
held_is t (write image a v) h = refl
held_is t (tick n) h = refl
held_is t inspect h = refl
held_is t (choose light level plain exposure) h = refl
held_is t (place file) h = refl

-- a capture that is held
pub itself : (t : Track) → t.capture.held ≡ true → Of t.capture.image t.capture.taken t.capture.ran t.capture
itself t h = record { held = h; image = refl; taken = refl; ran = refl }

ends_held : (t : Track) (k : Call) → ends t k ≡ (t.capture.held && (not (is_reset k) && not (next t k).capture.held))
ends_held t k =
    either (ends t k)
    (λ e. e ∙ sym (rw (end_next t k e, end_is t k e, (end_count t k e).0)))
    (λ e.
    e
    ∙ sym
    (either t.capture.held
    (λ h. either (is_reset k) (λ r. rw (r, h)) (λ r. rw ((goes_next t (itself t h) k r e).held, r, h)))
    (λ h. rw h)))

-- ---- what is told and what the world shows

pub held_now : (t : Track) (w : World) → Moment t w → t.capture.held ≡ w.state.held
held_now t w m = ap (λ (u : Track). u.capture.held) m.told.same

module _ (t : Track) (w : World) (m : Moment t w) (k : Call) where
  pub held_then : (next t k).capture.held ≡ (leaves w k).state.held
  held_then = held_now (next t k) (leaves w k) (moment_next t w m k)

  pub start_same : starts t k ≡ start_seen w k
  unfolding start_seen
  start_same = starts_held t k ∙ (λ i. not (held_now t w m i) && held_then i)

  pub end_same : ends t k ≡ end_seen w k
  unfolding end_seen
  end_same = ends_held t k ∙ (λ i. held_now t w m i && (not (is_reset k) && not (held_then i)))

-- ---- where a write lands

-- the tests of a write that lands, in the one order and in the other
in_order : (ok high ram free on here : Bool) → ((ok && (high && (ram && (not free && on)))) && here) ≡ (ok && (high && (ram && (pick free false on && here))))
in_order false high ram free on here = refl
in_order true false ram free on here = refl
in_order true true false free on here = refl
in_order true true true true on here = refl
in_order true true true false on here = refl

module _ (t : Track) (w : World) (m : Moment t w) where
  lands_shown_lem : (k : Call) (p : ℕ) → lands (seen w t.capture.image) k p ≡ lands_seen w k p
  unfolding lands lands_seen goes_in goes_to to_ram place_of
  lands_shown_lem reset p = refl
  lands_shown_lem (read rom a) p = refl
  lands_shown_lem (write image a v) p =
      rw (write_number_lem w t.capture.image m.told.own m.sound.exists image a v)
      (in_order (write_accepted (seen w t.capture.image) image a) (not (ltb a 0x8000)) (not (registers_on w.state)) (started w.state.registers) w.state.enabled
      (eqb p (ram_place w.state w.ram a))
      ∙ both_turn (write_accepted (seen w t.capture.image) image a) _)
  lands_shown_lem (tick n) p = refl
  lands_shown_lem inspect p = refl
  lands_shown_lem (choose light level plain exposure) p = refl
  lands_shown_lem (place file) p =
      rw (place_number w t.capture.image m.told.own m.sound.exists file) (both_turn (place_accepted (seen w t.capture.image) file) (in_area p))

  pub lands_same : (k : Call) (p : ℕ) → lands t k p ≡ lands_seen w k p
  lands_same k p = subst (λ (u : Track). lands u k p ≡ lands_seen w k p) (sym m.told.same) (lands_shown_lem k p)

pub landed_same : (cs : List Call) (t : Track) (w : World) → Moment t w → (p : ℕ) → landed p t cs ≡ landed_seen p w cs
unfolding landed landed_seen
landed_same [] t w m p = refl
landed_same (k ∷ cs) t w m p = rw (lands_same t w m k p, landed_same cs (next t k) (leaves w k) (moment_next t w m k) p)

pub last_same : (cs : List Call) (t : Track) (w : World) → Moment t w → (p first : ℕ) → last_in p t cs first ≡ last_seen p w cs first
unfolding last_in last_seen
last_same [] t w m p first = refl
last_same (k ∷ cs) t w m p first =
    last_same cs (next t k) (leaves w k) (moment_next t w m k) p (pick (lands t k p) (byte_in k p) first)
    ∙ ap (λ (b : Bool). last_seen p (leaves w k) cs (pick b (byte_in k p) first)) (lands_same t w m k p)

-- ---- how many

tally_same : (kind : Track → Call → Bool) (shown : World → Call → Bool) → ((t : Track) (w : World) → Moment t w → (k : Call) → kind t k ≡ shown w k)
    → (cs : List Call) (t : Track) (w : World) → Moment t w → (n : ℕ) → tally_told kind t cs n ≡ tally shown w cs n
unfolding tally_told tally
tally_same kind shown same [] t w m n = refl
tally_same kind shown same (k ∷ cs) t w m n =
    rw (same t w m k) (tally_same kind shown same cs (next t k) (leaves w k) (moment_next t w m k) (pick (is_reset k) 0 (pick (shown w k) (n + 1) n)))

pub starts_told_lem : (ram store : List ℕ) (cs : List Call) → starts_seen ram store cs ≡ starts_told ram store cs
starts_told_lem ram store cs = sym (tally_same starts start_seen start_same cs _ _ (at_reset_lem ram store) 0)

pub ends_told_lem : (ram store : List ℕ) (cs : List Call) → ends_seen ram store cs ≡ ends_told ram store cs
ends_told_lem ram store cs = sym (tally_same ends end_seen end_same cs _ _ (at_reset_lem ram store) 0)
