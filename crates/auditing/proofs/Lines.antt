-- A line of a recording: what its call leaves and is seen to do, by what is looked at of two records. Assumes nothing.
use mathlib.Core.Path.{◌≡◌, refl, sym, ap, ◌∙◌}
use mathlib.Core.Bool.{Bool, true, false, not, ◌&&◌, and-true}
use mathlib.Core.List.{List}
use Prim.Native.Nat.{ℕ, zero, suc, ◌+◌, ◌%◌}
use native.Mathlib.Nat.{add-zero}
use native.Mathlib.Omega.{arith}
use lib.Dec.{eqb, ltb}
use lib.ListN.{length}
use borrow.Author.Tests.{eq-eqb, not-true}
use Rattle.laws.specs.Pick.{pick}
use Rattle.laws.proofs.Pick.{pick_ind}
use Rattle.laws.proofs.Bools.{not_both, both_left, both_right}
use Rattle.lighting.specs.Light.{byte_at}
use Rattle.timing.specs.Lent.{ram_allowed}
use Rattle.controller.specs.declared.Controller.{Controller}
use Rattle.controller.specs.Table.{lowest}
use Rattle.capture.specs.Capture.{running, begun, from, ticks}
use Rattle.capture.specs.Calls.{tick_rows, tick_means}
use Rattle.capture.proofs.Refusals.{tick_refuses, tick_fits}
use Rattle.capture.proofs.TickSum.{Kept, ticks_keep}
use Rattle.cartridge.specs.Bus.{registers_on, ram_writable, ram_place, with_enabled, with_bank, with_select, with_register, control_written, is_start, capture_written, register_written, Left, byte_written}
use Rattle.cartridge.specs.Calls.{read_rows, read_means, write_rows, write_means}
use Rattle.cartridge.proofs.Refusals.{read_refuses, write_refuses}
use Rattle.history.specs.History.{Call, reset, read, write, tick, inspect, leaves, answers}
use Rattle.history.specs.History.{World as Found}
use Rattle.history.specs.Seen as seen
use Rattle.history.specs.Seen.{start_seen, end_seen, goes_to, goes_in, lands_seen, byte_in}
use Rattle.lines.specs.declared.line.Frame.{Frame}
use Rattle.lines.specs.declared.line.Frame.TheVariants.{Reset, Read, Write, Tick, Row, Malformed}
use Rattle.lines.specs.Line.{frame_of}
use Rattle.lines.specs.Hex.{placed}
use Rattle.session.specs.declared.answer.Answer.{Answer}
use Rattle.session.specs.Answer.{number_said}
use Rattle.session.specs.Session.{World, row_image, frame_step, step_of}
use Rattle.session.specs.Aside.{ran_in, ran_of, Carried}
use Rattle.session.proofs.Six.{said_number, write_said}
use Rattle.std.proofs.Common.{Option, Some, None}
use Rattle.lines.proofs.Placed.{placed_none}
use Rattle.events.specs.declared.event.Kind.{Kind}
use Rattle.events.specs.declared.event.Kind.TheVariants as kinds
use Rattle.events.specs.declared.event.Facts.{Facts}
use Rattle.events.specs.declared.event.Step.{Step}
use Rattle.events.specs.Book.{noted, one_more, lines}
use Rattle.events.specs.Event.{Event, found, call_of, stop_seen, resume_seen, drop_seen, place_of, write_seen, cycles_of, seen_of, event_of}
use Rattle.events.specs.Entry.{event_text, event_counted}
use Rattle.auditing.specs.Line.{line_counted, audit_of}
use Rattle.events.specs.Aside.{takes_writes, step_by, is_reset, landed_by, kind_by, kind_of, kind_in, facts_of, event_by}
use Rattle.auditing.specs.Aside.{Entered, Audits}

-- ---- what a frame leaves is what its call leaves

pub frame_leaves : (rom line : List ℕ) (w : World) (f : Frame) → leaves (found w) (call_of rom w.image f) ≡ found (frame_step rom line w f).world
unfolding leaves call_of frame_step
frame_leaves rom line w Reset = refl
frame_leaves rom line w (Read a) = refl
frame_leaves rom line w (Write a v) = refl
frame_leaves rom line w (Tick n) = refl
frame_leaves rom line w (Row y) = refl
frame_leaves rom line w Malformed = refl

-- ---- what is seen of a call, by its kind

module _ (b image ram regs : List ℕ) (f : Facts) where
  abbrev of : Option Kind → Event
  of k = event_by b image ram regs f k

  kind_event : (s e d l t r : Bool) → pick s (of (Some kinds.Start)) (pick e (of (Some kinds.End)) (pick d (of (Some kinds.Drop)) (pick l (of (Some kinds.Land)) (pick t (of (Some kinds.Stop)) (pick r (of (Some kinds.Resume)) (of None)))))) ≡ of (kind_by s e d l t r)
  kind_event true e d l t r = refl
  kind_event false true d l t r = refl
  kind_event false false true l t r = refl
  kind_event false false false true t r = refl
  kind_event false false false false true r = refl
  kind_event false false false false false true = refl
  kind_event false false false false false false = refl

  -- the image matters to a start alone
  image_out : (other : List ℕ) (e d l t r : Bool) → event_by b other ram regs f (kind_by false e d l t r) ≡ of (kind_by false e d l t r)
  unfolding event_by
  image_out other true d l t r = refl
  image_out other false true l t r = refl
  image_out other false false true t r = refl
  image_out other false false false true r = refl
  image_out other false false false false true = refl
  image_out other false false false false false = refl

abbrev call_facts : Found → Call → Facts
call_facts w c = record { serial = w.state.started; next = (leaves w c).state.started; cycles = cycles_of w c; place = place_of w c; byte = byte_in c (place_of w c) }

seen_kind : (b image : List ℕ) (w : Found) (c : Call) → seen_of b image w c ≡ event_by b image (leaves w c).ram (leaves w c).state.taken (call_facts w c) (kind_by (start_seen w c) (end_seen w c) (drop_seen w c) (write_seen w c) (stop_seen w c) (resume_seen w c))
unfolding seen_of event_by
seen_kind b image w c = kind_event b image (leaves w c).ram (leaves w c).state.taken (call_facts w c) (start_seen w c) (end_seen w c) (drop_seen w c) (write_seen w c) (stop_seen w c) (resume_seen w c)

-- ---- a frame's event, by what is looked at

-- a write that lands
goes_same : (c : Controller) (ram : List ℕ) (a : ℕ) → (not (ltb a 0x8000) && takes_writes c) ≡ goes_to c ram a (ram_place c ram a)
unfolding goes_to
goes_same c ram a =
    sym (ap (λ (t : Bool). not (ltb a 0x8000) && (not (registers_on c) && t)) (ap (λ (t : Bool). ram_writable c && t) (eq-eqb (ram_place c ram a) (ram_place c ram a) refl) ∙ and-true (ram_writable c)))

write_lands : (w : World) (a v number : ℕ) → number ≡ (write_means w.state w.ram w.store w.image a v).number
    → landed_by (Write a v) (takes_writes w.state) number ≡ lands_seen (found w) (write w.image a v) (ram_place w.state w.ram a)
unfolding lands_seen goes_in answers
write_lands w a v number e = λ i. goes_same w.state w.ram a i && eqb (e i) 0

no_start_lem : (h : Bool) → (not h && h) ≡ false
no_start_lem true = refl
no_start_lem false = refl

-- a line that was carried out, from the world before it and the one after it
abbrev pub stepped : World → World → Frame → ℕ → ℕ → Step
stepped w w' f number v = step_by f w.state w'.state (length w.ram) number v

-- what is said of it, where a write landed or not
abbrev pub shown : List ℕ → World → World → Frame → ℕ → ℕ → Bool → Event
shown b w w' f number v lands =
    event_by b w'.image w'.ram w'.state.taken (facts_of (stepped w w' f number v))
    (kind_of w.state.held (running w.state) w'.state.held (running w'.state) (is_reset f) lands)

module _ (rom line b : List ℕ) (w : World) (v number : ℕ) where
  frame_event : (f : Frame) → number ≡ number_said (frame_step rom line w f).text → ran_in f v ≡ ran_of w f
      → shown b w (frame_step rom line w f).world f number v (landed_by f (takes_writes w.state) number) ≡ event_of rom b w f
  unfolding call_of leaves frame_step start_seen end_seen drop_seen write_seen stop_seen resume_seen lands_seen goes_in seen.is_reset place_of byte_in answers ran_in ran_of
  frame_event Reset n r = sym (seen_kind b w.image (found w) reset)
  frame_event (Read a) n r = sym (seen_kind b w.image (found w) (read rom a))
  frame_event (Write a x) n r =
      ap (shown b w (frame_step rom line w (Write a x)).world (Write a x) number v) (write_lands w a x number (n ∙ write_said rom line w a x))
      ∙ sym (seen_kind b w.image (found w) (write w.image a x))
  frame_event (Tick k) n r =
      ap (λ (x : ℕ). shown b w (frame_step rom line w (Tick k)).world (Tick k) number x false) r
      ∙ sym (seen_kind b w.image (found w) (tick k))
  frame_event (Row y) n r =
      let c = w.state in
      let f = facts_of (step_by (Row y) c c (length w.ram) number v) in
      let k : Bool → Option Kind = λ s. kind_by s (c.held && (true && not c.held)) (c.held && false) (c.held && false) (running c && (c.held && not (running c))) (c.held && (not (running c) && running c)) in
      ap (λ (s : Bool). event_by b (row_image line w.image y) w.ram c.taken f (k s)) (no_start_lem c.held)
      ∙ image_out b w.image w.ram c.taken f (row_image line w.image y) (c.held && (true && not c.held)) (c.held && false) (c.held && false) (running c && (c.held && not (running c))) (c.held && (not (running c) && running c))
      ∙ ap (λ (s : Bool). event_by b w.image w.ram c.taken f (k s)) (sym (no_start_lem c.held))
      ∙ sym (seen_kind b w.image (found w) inspect)
  frame_event Malformed n r = sym (seen_kind b w.image (found w) inspect)

-- ---- an end is a tick's that is not refused

-- whether a kind is an end
is_end : Option Kind → Bool
is_end None = false
is_end (Some kinds.Start) = false
is_end (Some kinds.End) = true
is_end (Some kinds.Drop) = false
is_end (Some kinds.Land) = false
is_end (Some kinds.Stop) = false
is_end (Some kinds.Resume) = false

kind_end : (s e d l t r : Bool) → is_end (kind_by s e d l t r) ≡ true → e ≡ true
unfolding is_end
kind_end true e d l t r h = not_both h refl
kind_end false true d l t r h = refl
kind_end false false true l t r h = not_both h refl
kind_end false false false true t r h = not_both h refl
kind_end false false false false true r h = not_both h refl
kind_end false false false false false true h = not_both h refl
kind_end false false false false false false h = not_both h refl

-- a capture that stays held has not ended
stays : (h k r : Bool) → (h ≡ true → k ≡ true) → (h && (not r && not k)) ≡ true → ⊥
stays h k r s e =
    not_both (s (both_left h (not r && not k) e)) (not-true k (both_right (not r) (not k) (both_right h (not r && not k) e)))

read_held : (c : Controller) (rom ram : List ℕ) (a : ℕ) → c.held ≡ true → (read_means c rom ram a).state.held ≡ true
read_held c rom ram a h = by_number (lowest (read_rows c rom ram a)) refl
  where
    by_number : (n : ℕ) → lowest (read_rows c rom ram a) ≡ n → (read_means c rom ram a).state.held ≡ true
    by_number zero e = rw ((read_refuses c rom ram a).does e) h
    by_number (suc k) e = rw ((read_refuses c rom ram a).kept k e) h

control_held : (c : Controller) (a v : ℕ) → c.held ≡ true → (control_written c a v).held ≡ true
unfolding control_written with_enabled with_bank with_select
control_held c a v h =
    pick_ind (λ (k : Controller). k.held ≡ true) (ltb a 0x2000)
    (λ t. pick_ind (λ (k : Controller). k.held ≡ true) (eqb v 0x0A) (λ u. h) (λ u. pick_ind (λ (k : Controller). k.held ≡ true) (eqb v 0x00) (λ z. h) (λ z. h)))
    (λ t. pick_ind (λ (k : Controller). k.held ≡ true) (ltb a 0x4000) (λ u. h) (λ u. pick_ind (λ (k : Controller). k.held ≡ true) (ltb a 0x6000) (λ z. h) (λ z. h)))

written_held : (c : Controller) (ram store image : List ℕ) (a v : ℕ) → c.held ≡ true → (byte_written c ram store image a v).state.held ≡ true
unfolding byte_written register_written capture_written with_register begun
written_held c ram store image a v h =
    pick_ind (λ (l : Left). l.state.held ≡ true) (ltb a 0x8000) (λ t. control_held c a v h)
    (λ t.
    pick_ind (λ (l : Left). l.state.held ≡ true) (registers_on c)
    (λ u.
    pick_ind (λ (k : Controller). k.held ≡ true) (eqb (a % 128) 0)
    (λ z. pick_ind (λ (k : Controller). k.held ≡ true) (is_start c v) (λ y. refl) (λ y. h))
    (λ z. pick_ind (λ (k : Controller). k.held ≡ true) (ltb (a % 128) 54) (λ y. h) (λ y. h)))
    (λ u. h))

write_held : (c : Controller) (ram store image : List ℕ) (a v : ℕ) → c.held ≡ true → (write_means c ram store image a v).state.held ≡ true
write_held c ram store image a v h = by_number (lowest (write_rows c ram store image a)) refl
  where
    by_number : (n : ℕ) → lowest (write_rows c ram store image a) ≡ n → (write_means c ram store image a v).state.held ≡ true
    by_number zero e = rw ((write_refuses c ram store image a v).does e) (written_held c ram store image a v h)
    by_number (suc k) e = rw ((write_refuses c ram store image a v).kept k e) h

tick_allowed : (c : Controller) (ram store : List ℕ) (n : ℕ) → (c.held && (true && not (tick_means c ram store n).state.held)) ≡ true → ram_allowed (length (tick_means c ram store n).ram) ≡ true
tick_allowed c ram store n h = by_number (lowest (tick_rows c ram store)) refl
  where
    by_number : (k : ℕ) → lowest (tick_rows c ram store) ≡ k → ram_allowed (length (tick_means c ram store n).ram) ≡ true
    by_number zero e =
        let f = tick_fits c ram store e in
        let k : Kept (length ram) (ticks (byte_at store) n (from c ram)) = ticks_keep (byte_at store) (length ram) n (from c ram) (record { exists = f.exists; long = refl }) in
        rw ((tick_refuses c ram store n).does e) (rw k.long f.ram_fits)
    by_number (suc k) e = absurd (stays c.held (tick_means c ram store n).state.held false (λ t. rw ((tick_refuses c ram store n).kept k e) t) h)

frame_end : (rom line : List ℕ) (w : World) (f : Frame) → (w.state.held && (not (is_reset f) && not (frame_step rom line w f).world.state.held)) ≡ true
    → ram_allowed (length (frame_step rom line w f).world.ram) ≡ true
unfolding frame_step
frame_end rom line w Reset h = not_both (both_right w.state.held false h) refl
frame_end rom line w (Read a) h = absurd (stays w.state.held _ false (read_held w.state rom w.ram a) h)
frame_end rom line w (Write a v) h = absurd (stays w.state.held _ false (write_held w.state w.ram w.store w.image a v) h)
frame_end rom line w (Tick n) h = tick_allowed w.state w.ram w.store n h
frame_end rom line w (Row y) h = absurd (stays w.state.held w.state.held false (λ t. t) h)
frame_end rom line w Malformed h = absurd (stays w.state.held w.state.held false (λ t. t) h)

-- ---- a line

module _ (rom line b : List ℕ) (w w' : World) (f : Frame) (a : Answer) (is : f ≡ frame_of line) (carried : Carried rom line w f a w')
    (s : Step) (regs : List ℕ) (s-is : s ≡ stepped w w' f a.number a.value) (regs-is : regs ≡ w'.state.taken) where
  world_is : w' ≡ (frame_step rom line w f).world
  unfolding step_of
  world_is = (λ i. (carried.step i).world) ∙ sym (ap (λ (g : Frame). (frame_step rom line w g).world) is)

  number_is : a.number ≡ number_said (frame_step rom line w f).text
  unfolding step_of
  number_is = sym (said_number a carried.short) ∙ ap number_said ((λ i. (carried.step i).text) ∙ sym (ap (λ (g : Frame). (frame_step rom line w g).text) is))

  event_is : event_by b w'.image w'.ram regs (facts_of s) (kind_in s) ≡ event_of rom b w (frame_of line)
  event_is =
      (λ i. event_by b w'.image w'.ram (regs-is i) (facts_of (s-is i)) (kind_in (s-is i)))
      ∙ ap (λ (x : World). shown b w x f a.number a.value (landed_by f (takes_writes w.state) a.number)) world_is
      ∙ frame_event rom line b w a.value a.number f number_is carried.ran
      ∙ ap (event_of rom b w) is

  -- where it is an end, the RAM's length is allowed
  pub end_allowed : kind_in s ≡ Some kinds.End → ram_allowed (length w'.ram) ≡ true
  unfolding is_end
  end_allowed h =
      let c = w.state in
      let d = w'.state in
      let e : (c.held && (not (is_reset f) && not d.held)) ≡ true =
      kind_end (not c.held && d.held) (c.held && (not (is_reset f) && not d.held)) (c.held && is_reset f) (c.held && landed_by f (takes_writes c) a.number) (running c && (d.held && not (running d))) (c.held && (not (running c) && running d)) (ap is_end (sym (λ i. kind_in (s-is i)) ∙ h)) in
      rw world_is (frame_end rom line w f (rw world_is at e))

  line_is : line_counted b s.frame s.number ≡ line_counted b (frame_of line) (number_said (step_of rom w line).text)
  unfolding step_of
  line_is =
      (λ i. line_counted b (s-is i).frame (s-is i).number)
      ∙ (λ i. line_counted b (is i) (number_is i))
      ∙ ap (λ (g : Frame). line_counted b (frame_of line) (number_said (frame_step rom line w g).text)) is

  -- what it leaves
  pub line_audits : (out : List ℕ) (at : ℕ) (b' out' : List ℕ) (at' : ℕ) → Entered b (line_counted b s.frame s.number) (event_by b w'.image w'.ram regs (facts_of s) (kind_in s)) out at b' out' at'
      → Audits (audit_of rom w b line) w' out at b' out' at'
  unfolding audit_of
  line_audits out at b' out' at' e =
      let n = one_more (noted b lines) in
      record {
        world = (λ i. (carried.step i).world);
        book = e.book ∙ (λ i. event_counted (line_is i) (event_is i));
        text = e.text ∙ ap (λ (x : Event). placed out at (event_text n x)) event_is;
        end = e.end ∙ ap (λ (x : Event). at + length (event_text n x)) event_is;
        few = e.few;
      }

-- where there is no event a line is counted, and nothing is said
pub quiet_entered : (b counted image ram regs out : List ℕ) (f : Facts) (at : ℕ) (k : Option Kind) → k ≡ None
    → Entered b counted (event_by b image ram regs f k) out at counted out at
unfolding event_by event_text event_counted
quiet_entered b counted image ram regs out f at k e = rw e record {
  book = refl;
  text = sym (placed_none out at);
  end = sym (add-zero at);
  few = omega arith;
}
