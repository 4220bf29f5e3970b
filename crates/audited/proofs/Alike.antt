-- What an audit says does not depend on the first two numbers of its book. Assumes nothing.
use mathlib.Core.Path.{◌≡◌, refl, sym, ap, ◌∙◌}
use mathlib.Core.Bool.{not}
use mathlib.Core.List.{List, [], ◌∷◌, ◌++◌}
use Prim.Native.Nat.{ℕ, ◌<◌, ◌≤◌}
use native.Mathlib.Omega.{arith}
use lib.Dec.{eqb}
use lib.ListN.{length, take, set, length-set}
use lib.Seq.{get_or-set_same, get_or-set_other, take_all, length-take-le}
use borrow.Author.Tests.{eqb-true, eqb-false}
use Rattle.laws.specs.Pick.{pick}
use Rattle.laws.proofs.Bools.{either}
use Rattle.laws.proofs.Pick.{paired}
use Rattle.laws.proofs.Order.{split}
use Rattle.crc.specs.Crc.{crc_of}
use Rattle.plates.specs.Grey.{plate_of}
use Rattle.history.specs.History.{Call, leaves}
use Rattle.history.specs.History.{World as Found}
use Rattle.history.specs.Seen.{in_area, start_seen, end_seen, byte_in}
use Rattle.lines.specs.declared.line.Frame.{Frame}
use Rattle.lines.specs.Line.{frame_of}
use Rattle.lines.proofs.Frames.{too_long_lem}
use Rattle.session.specs.Answer.{number_said}
use Rattle.session.specs.Session.{World, step_of}
use Rattle.script.proofs.Whole.{enough}
use Rattle.events.specs.Book.{noted, more, one_more, lines, row, writes, first, last}
use Rattle.events.specs.Book as book
use Rattle.events.specs.Event.{Event, none, start, stop, resume, dropped, landed, whole, touched, found, call_of, stop_seen, resume_seen, drop_seen, place_of, write_seen, cycles_of, end_of, seen_of, event_of}
use Rattle.events.specs.Entry.{touch_counted, event_counted, event_text}
use Rattle.auditing.specs.Line.{is_malformed, is_row, line_counted, Audited, audit_of, audit_all}
use Rattle.audited.proofs.Writes.{Long}

-- two books that differ in the first two numbers at most
pub record Alike (b c : List ℕ) : Type 0 where
  pub long : Long b
  pub long' : Long c
  pub same : (k : ℕ) → 2 ≤ k → noted b k ≡ noted c k

pub alike_then : {a b c : List ℕ} → Alike a b → Alike b c → Alike a c
alike_then p q = record { long = p.long; long' = q.long'; same = λ k h. p.same k h ∙ q.same k h }

-- one of the first two numbers set
pub alike_first : (b : List ℕ) (k v : ℕ) → k < 2 → Long b → Alike (set b k v) b
alike_first b k v small l = record { long = length-set b k v ∙ l; long' = l; same = λ j h. get_or-set_other b k j v 0 (λ e. omega arith) }

-- one of the others set
alike_set : {b c : List ℕ} (k v u : ℕ) → k < 13 → v ≡ u → Alike b c → Alike (set b k v) (set c k u)
alike_set {b} {c} k v u small e a = record {
  long = length-set b k v ∙ a.long;
  long' = length-set c k u ∙ a.long';
  same = λ j h.
      either (eqb j k)
      (λ t.
      let f : j ≡ k = eqb-true j k t in
      ap (λ (i : ℕ). noted (set b k v) i) f
      ∙ get_or-set_same b k v 0 (omega (arith, a.long))
      ∙ e
      ∙ sym (ap (λ (i : ℕ). noted (set c k u) i) f ∙ get_or-set_same c k u 0 (omega (arith, a.long'))))
      (λ t.
      get_or-set_other b k j v 0 (eqb-false j k t) ∙ a.same j h ∙ sym (get_or-set_other c k j u 0 (eqb-false j k t)));
}

alike_more : {b c : List ℕ} (k : ℕ) → k < 13 → 2 ≤ k → Alike b c → Alike (more b k) (more c k)
alike_more k small h a = alike_set k _ _ small (ap one_more (a.same k h)) a

line_alike : {b c : List ℕ} (f : Frame) (n : ℕ) → Alike b c → Alike (line_counted b f n) (line_counted c f n)
unfolding line_counted
line_alike {b} {c} f n a =
    let m : Alike (more b lines) (more c lines) = alike_more lines (omega arith) (omega arith) a in
    paired Alike (is_malformed f) (λ _. alike_more book.malformed (omega arith) (omega arith) m)
    (λ _.
    paired Alike (not (eqb n 0)) (λ _. alike_more book.refused (omega arith) (omega arith) m)
    (λ _. paired Alike (is_row f) (λ _. alike_set row _ _ (omega arith) (m.same lines (omega arith)) m) (λ _. m)))

touch_alike : {b c : List ℕ} → Alike b c → Alike (touch_counted b) (touch_counted c)
unfolding touch_counted
touch_alike {b} {c} a =
    let n = a.same lines (omega arith) in
    let v = a.same writes (omega arith) in
    let f = a.same first (omega arith) in
    alike_more writes (omega arith) (omega arith)
    (alike_set last _ _ (omega arith) n (alike_set first _ _ (omega arith) (λ i. pick (eqb (v i) 0) (n i) (f i)) a))

event_alike : {b c : List ℕ} (e : Event) → Alike b c → Alike (event_counted b e) (event_counted c e)
unfolding event_counted
event_alike none a = a
event_alike (start s i r g) a = alike_more book.captures (omega arith) (omega arith) (alike_set writes 0 0 (omega arith) refl a)
event_alike (stop s c) a = a
event_alike (resume s c) a = a
event_alike (dropped s c) a = alike_more book.dropped (omega arith) (omega arith) a
event_alike (landed s at v) a = paired Alike (in_area at) (λ _. touch_alike a) (λ _. a)
event_alike (whole s c p) a = alike_more book.whole (omega arith) (omega arith) (alike_more book.ended (omega arith) (omega arith) a)
event_alike (touched s c p n f t) a = alike_more book.ended (omega arith) (omega arith) a

-- the same is seen
seen_alike : {b c : List ℕ} (image : List ℕ) (w : Found) (k : Call) → Alike b c → seen_of b image w k ≡ seen_of c image w k
unfolding seen_of end_of
seen_alike image w k a =
    let r = a.same row (omega arith) in
    let v = a.same writes (omega arith) in
    let f = a.same first (omega arith) in
    let t = a.same last (omega arith) in
    let p = crc_of (plate_of (leaves w k).ram) in
    (λ i.
    pick (start_seen w k) (start (leaves w k).state.started (crc_of image) (r i) (leaves w k).state.taken)
    (pick (end_seen w k)
    (pick (eqb (v i) 0) (whole w.state.started (cycles_of w k) p) (touched w.state.started (cycles_of w k) p (v i) (f i) (t i)))
    (pick (drop_seen w k) (dropped w.state.started (cycles_of w k))
    (pick (write_seen w k) (landed w.state.started (place_of w k) (byte_in k (place_of w k)))
    (pick (stop_seen w k) (stop w.state.started (cycles_of w k))
    (pick (resume_seen w k) (resume w.state.started (cycles_of w k)) none))))))

-- one line, and lines
pub record SameSaid (a c : Audited) : Type 0 where
  pub world : a.world ≡ c.world
  pub book : Alike a.book c.book
  pub text : a.text ≡ c.text

pub line_same : (rom : List ℕ) (w : World) {b c : List ℕ} (line : List ℕ) → Alike b c → SameSaid (audit_of rom w b line) (audit_of rom w c line)
unfolding audit_of
line_same rom w {b} {c} line a =
    let f = frame_of line in
    let n = number_said (step_of rom w line).text in
    let e : event_of rom b w f ≡ event_of rom c w f = seen_alike w.image (found w) (call_of rom w.image f) a in
    record {
      world = refl;
      book = rw (← e) (event_alike (event_of rom b w f) (line_alike f n a));
      text = (λ i. event_text (one_more (a.same lines (omega arith) i)) (e i));
    }

pub lines_same : (rom : List ℕ) (ls : List (List ℕ)) (w : World) {b c : List ℕ} → Alike b c → SameSaid (audit_all rom w b ls) (audit_all rom w c ls)
unfolding audit_all audit_of
lines_same rom [] w a = record { world = refl; book = a; text = refl }
lines_same rom (line ∷ ls) w {b} {c} a =
    let h = line_same rom w line a in
    let t = lines_same rom ls (step_of rom w line).world h.book in
    record { world = t.world; book = t.book; text = (λ i. h.text i ++ t.text i) }

-- ---- 261 bytes of a line are enough to know what it does

pub enough_said : (rom : List ℕ) (w : World) (b line : List ℕ) → audit_of rom w b (take 261 line) ≡ audit_of rom w b line
unfolding audit_of
enough_said rom w b line =
    let s = enough rom w line in
    let f : frame_of (take 261 line) ≡ frame_of line =
    split 261 (length line)
    (λ h. too_long_lem (take 261 line) (rw (length-take-le 261 line (omega arith)) (omega arith)) ∙ sym (too_long_lem line (omega arith)))
    (λ h. ap frame_of (take_all 261 line h)) in
    (λ i. record {
      world = (s i).world;
      book = event_counted (line_counted b (f i) (number_said (s i).text)) (event_of rom b w (f i));
      text = event_text (one_more (noted b lines)) (event_of rom b w (f i));
    })
