-- Each exported call on the bytes of a state is the call on that state: what it hands on, and what it answers. Assumes nothing.
use mathlib.Core.Path.{◌≡◌, refl, ap, ◌∙◌}
use mathlib.Core.Bool.{true, not, ◌&&◌, ◌||◌}
use mathlib.Core.List.{List, [], ◌∷◌, map}
use Prim.Native.Nat.{ℕ, ◌+◌}
use borrow.Author.Tests.{ltb-true, eq-eqb}
use Rattle.laws.specs.Pick.{pick}
use Rattle.laws.proofs.Bools.{both_left, both_right}
use Rattle.controller.specs.declared.Controller.{Controller}
use Rattle.cartridge.specs.Calls.{read_means, write_means}
use Rattle.capture.specs.Calls.{tick_means}
use Rattle.desk.specs.Choice.{choose_means}
use Rattle.placing.specs.Placing.{place_means}
use Rattle.layout.specs.Layout.{encoded, is_record, registers_at, decoded}
use Rattle.layout.proofs.Inverse.{Whole, encoded_length, encoded_record, decode_encode}
use Rattle.answers.specs.Called.{Called, as_bytes}
use Rattle.embed.specs.Exports.{plain_in, exposure_in}
use Rattle.embed.proofs.Cases.{reset_done, read_done, write_done, tick_done, choose_done}
use Rattle.images.proofs.Cases.{place_done}
use Rattle.embed.proofs.Only.{write_says, tick_says}
use Rattle.images.proofs.Only.{place_says}
use Rattle.history.specs.History as history
use Rattle.history.specs.History.{Call, World, leaves, answers, after}
use Rattle.history.specs.Seen.{is_reset, goes_in, byte_in, start_seen, end_seen, held_through, lands_seen, landed_seen, last_seen}
use Rattle.history.proofs.Track.{Track, next}
use Rattle.carried.specs.Exported.{Kept, Export, reset, read, write, tick, inspect, choose, place, call_of, hands, replies, count_in, hands_on, counted, fits, all_fit}
use Rattle.carried.specs.Shown.{held_in, start_shown, end_shown, held_on, lands_shown, landed_shown, last_shown}
use Rattle.carried.proofs.Fits.{Now, now_next, now_whole}

-- the bytes of a world
abbrev pub kept_of : World → Kept
kept_of w = record { state = encoded w.state; ram = w.ram; store = w.store }

module _ (w : World) (h : Whole w.state) where
  abbrev c : Controller
  c = w.state

  abbrev s : List ℕ
  s = encoded c

  is : is_record s ≡ true
  is = encoded_record c h

  back : decoded s ≡ c
  back = decode_encode c h

  -- what it hands on
  pub hand_next : (k : Export) → hands (kept_of w) k ≡ kept_of (leaves w (call_of k))
  unfolding hands leaves call_of
  hand_next reset = ap (λ (o : Called). record { state = o.state; ram = w.ram; store = w.store }) (reset_done s (eq-eqb _ _ (encoded_length c h)))
  hand_next (read rom a) =
      ap (λ (o : Called). record { state = o.state; ram = o.ram; store = w.store })
      (read_done s rom w.ram a is ∙ ap (λ (d : Controller). as_bytes (read_means d rom w.ram a)) back)
  hand_next (write image a v) =
      ap (λ (o : Called). record { state = o.state; ram = o.ram; store = o.store })
      (write_done s w.ram w.store image a v is ∙ ap (λ (d : Controller). as_bytes (write_means d w.ram w.store image a v)) back)
  hand_next (tick n) =
      ap (λ (o : Called). record { state = o.state; ram = o.ram; store = o.store })
      (tick_done s w.ram w.store n is ∙ ap (λ (d : Controller). as_bytes (tick_means d w.ram w.store n)) back)
  hand_next inspect = refl
  hand_next (choose light level plain exposure) =
      ap (λ (o : Called). record { state = o.state; ram = w.ram; store = w.store })
      (choose_done s light level plain exposure is ∙ ap (λ (d : Controller). as_bytes (choose_means d light level (plain_in plain) (exposure_in exposure))) back)
  hand_next (place file) =
      ap (λ (o : Called). record { state = o.state; ram = o.ram; store = w.store })
      (place_done s w.ram file is ∙ ap (λ (d : Controller). as_bytes (place_means d w.ram file)) back)

  -- the count that it returns
  pub count_same : (k : Export) → fits k ≡ true → count_in (kept_of w) k ≡ history.count_in (answers w (call_of k))
  unfolding count_in replies answers call_of fits
  count_same reset f = refl
  count_same (read rom a) f = refl
  count_same (write image a v) f = refl
  count_same (tick n) f =
      (tick_says s w.ram w.store n (ltb-true n 4294967296 f) is).value ∙ ap (λ (d : Controller). (tick_means d w.ram w.store n).value) back
  count_same inspect f = refl
  count_same (choose light level plain exposure) f = refl
  count_same (place file) f = refl

  -- whether a capture is held, and the registers
  pub held_same : held_in (kept_of w) ≡ c.held
  unfolding decoded
  held_same = ap (λ (d : Controller). d.held) back

  pub registers_same : registers_at s 13 ≡ c.registers
  unfolding decoded
  registers_same = ap (λ (d : Controller). d.registers) back

  -- where it lands
  pub lands_same : (k : Export) (p : ℕ) → lands_shown (kept_of w) k p ≡ lands_seen w (call_of k) p
  unfolding lands_shown lands_seen goes_in replies answers call_of
  lands_same reset p = refl
  lands_same (read rom a) p = refl
  lands_same (write image a v) p =
      rw ((write_says s w.ram w.store image a v is).number, back)
  lands_same (tick n) p = refl
  lands_same inspect p = refl
  lands_same (choose light level plain exposure) p = refl
  lands_same (place file) p = rw ((place_says s w.ram file is).number, back)

-- ---- along a history

pub first_fits : (k : Export) (cs : List Export) → all_fit (k ∷ cs) ≡ true → (fits k ≡ true) × (all_fit cs ≡ true)
unfolding all_fit
first_fits k cs f = (both_left (fits k) (all_fit cs) f, both_right (fits k) (all_fit cs) f)

module _ (t : Track) (w : World) (n : Now t w) where
  h : Whole w.state
  h = now_whole t w n

  module _ (k : Export) (f : fits k ≡ true) where
    pub held_then : held_in (hands (kept_of w) k) ≡ (leaves w (call_of k)).state.held
    held_then =
        ap held_in (hand_next w h k) ∙ held_same (leaves w (call_of k)) (now_whole _ _ (now_next t w n k f))

    pub start_same : start_shown (kept_of w) k ≡ start_seen w (call_of k)
    unfolding start_shown start_seen
    start_same = λ i. not (held_same w h i) && held_then i

    pub end_same : end_shown (kept_of w) k ≡ end_seen w (call_of k)
    unfolding end_shown end_seen
    end_same = λ i. held_same w h i && (not (is_reset (call_of k)) && not (held_then i))

-- what is the same of no call, and of one call more where it is of the calls after it, is the same of every list of calls
along : {R : Type 0} (shown : Kept → List Export → R) (seen : World → List Call → R)
    → ((t : Track) (w : World) → Now t w → shown (kept_of w) [] ≡ seen w [])
    → ((t : Track) (w : World) → Now t w → (k : Export) → fits k ≡ true → (cs : List Export)
    → shown (hands (kept_of w) k) cs ≡ seen (leaves w (call_of k)) (map call_of cs) → shown (kept_of w) (k ∷ cs) ≡ seen w (call_of k ∷ map call_of cs))
    → (cs : List Export) (t : Track) (w : World) → Now t w → all_fit cs ≡ true → shown (kept_of w) cs ≡ seen w (map call_of cs)
along shown seen none more [] t w n f = none t w n
along shown seen none more (k ∷ cs) t w n f =
    let g = first_fits k cs f in
    more t w n k g.0 cs
    (ap (λ (b : Kept). shown b cs) (hand_next w (now_whole t w n) k)
    ∙ along shown seen none more cs (next t (call_of k)) (leaves w (call_of k)) (now_next t w n k g.0) g.1)

-- what is handed on is the bytes of the world that the calls leave
pub hands_on_lem : (cs : List Export) (t : Track) (w : World) → Now t w → all_fit cs ≡ true → hands_on (kept_of w) cs ≡ kept_of (after w (map call_of cs))
unfolding hands_on after
hands_on_lem = along hands_on (λ w cs. kept_of (after w cs)) (λ t w n. refl) (λ t w n k f cs e. e)

pub counted_on : (cs : List Export) (t : Track) (w : World) → Now t w → all_fit cs ≡ true → counted (kept_of w) cs ≡ history.counted w (map call_of cs)
unfolding counted history.counted
counted_on = along counted history.counted (λ t w n. refl) (λ t w n k f cs e i. count_same w (now_whole t w n) k f i + e i)

pub held_on_lem : (cs : List Export) (t : Track) (w : World) → Now t w → all_fit cs ≡ true → held_on (kept_of w) cs ≡ held_through w (map call_of cs)
unfolding held_on held_through
held_on_lem = along held_on held_through (λ t w n. held_same w (now_whole t w n)) (λ t w n k f cs e i. held_same w (now_whole t w n) i && e i)

pub landed_on : (p : ℕ) (cs : List Export) (t : Track) (w : World) → Now t w → all_fit cs ≡ true → landed_shown p (kept_of w) cs ≡ landed_seen p w (map call_of cs)
unfolding landed_shown landed_seen
landed_on p = along (landed_shown p) (landed_seen p) (λ t w n. refl) (λ t w n k f cs e i. lands_same w (now_whole t w n) k p i || e i)

pub last_on : (p : ℕ) (cs : List Export) (t : Track) (w : World) → Now t w → all_fit cs ≡ true → last_shown p (kept_of w) cs ≡ last_seen p w (map call_of cs)
unfolding last_shown last_seen
last_on p =
    along (last_shown p) (last_seen p) (λ t w n i first. first)
    (λ t w n k f cs e i first. e i (pick (lands_same w (now_whole t w n) k p i) (byte_in (call_of k) p) first))
