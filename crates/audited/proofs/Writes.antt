-- The book's count of bus writes in the picture area: it is 0 exactly where none landed there since the start. Assumes nothing.
use mathlib.Core.Path.{◌≡◌, refl, sym, ap, ◌∙◌}
use mathlib.Core.Bool.{Bool, true, false, not, ◌&&◌, and-false}
use mathlib.Core.List.{List, [], ◌∷◌, ◌++◌}
use Prim.Native.Nat.{ℕ, ◌+◌, ◌<◌, ◌≤◌}
use native.Mathlib.Omega.{arith}
use lib.Dec.{eqb, ltb}
use lib.ListN.{length, set, length-set}
use lib.Seq.{get_or-set_same, get_or-set_other}
use borrow.Author.Tests.{eqb-true, eq-eqb, ne_eqb, lt-ltb, ltb-false}
use Rattle.laws.specs.Pick.{pick}
use Rattle.laws.proofs.Bools.{either, not_both, both_left, both_right, both_hold, neither_left, neither_right}
use Rattle.laws.proofs.Pick.{pick_ind}
use Rattle.controller.specs.State.{reset_state}
use Rattle.cartridge.specs.Bus.{registers_on, ram_writable, ram_place}
use Rattle.history.specs.History.{Call, reset, read, write, tick, inspect, choose, place, leaves}
use Rattle.history.specs.History.{World as Found}
use Rattle.history.specs.Seen.{is_reset, start_seen, end_seen, held_through, in_area, accepted, goes_to, goes_in, lands_seen, landed_seen, byte_in, AreaLeft}
use Rattle.lines.specs.declared.line.Frame.{Frame}
use Rattle.lines.specs.declared.line.Frame.TheVariants.{Reset, Read, Write, Tick, Row, Malformed}
use Rattle.lines.specs.Line.{frame_of}
use Rattle.session.specs.Answer.{number_said}
use Rattle.session.specs.Session.{World, step_of}
use Rattle.events.specs.Book.{noted, more, one_more, lines, row, writes, first, last}
use Rattle.events.specs.Book as book
use Rattle.events.specs.Event.{Event, none, start, stop, resume, dropped, landed, whole, touched, found, call_of, stop_seen, resume_seen, drop_seen, place_of, write_seen, seen_of, event_of}
use Rattle.events.specs.Entry.{touch_counted, event_counted}
use Rattle.auditing.specs.Line.{is_malformed, is_row, line_counted, audit_of, audit_all}
use Rattle.audited.specs.Sessions.{calls_of}
use Rattle.audited.specs.Told.{lands_in_area, landings}
use Rattle.audited.proofs.Sessions.{line_found}

-- ---- a book has thirteen numbers

abbrev pub Long : List ℕ → Type 0
Long b = length b ≡ 13

pub long_set : (b : List ℕ) (k v : ℕ) → Long b → Long (set b k v)
long_set b k v l = length-set b k v ∙ l

pub long_line : (b : List ℕ) (f : Frame) (n : ℕ) → Long b → Long (line_counted b f n)
unfolding line_counted
long_line b f n l =
    let m : Long (more b lines) = long_set b lines _ l in
    pick_ind Long (is_malformed f) (λ _. long_set (more b lines) book.malformed _ m)
    (λ _.
    pick_ind Long (not (eqb n 0)) (λ _. long_set (more b lines) book.refused _ m)
    (λ _. pick_ind Long (is_row f) (λ _. long_set (more b lines) row _ m) (λ _. m)))

long_touch : (b : List ℕ) → Long b → Long (touch_counted b)
unfolding touch_counted
long_touch b l =
    let x = set b first (pick (eqb (noted b writes) 0) (noted b lines) (noted b first)) in
    let y = set x last (noted b lines) in
    long_set y writes (one_more (noted y writes)) (long_set x last _ (long_set b first _ l))

long_event : (b : List ℕ) (e : Event) → Long b → Long (event_counted b e)
unfolding event_counted
long_event b none l = l
long_event b (start s i r g) l = long_set (set b writes 0) book.captures _ (long_set b writes 0 l)
long_event b (stop s c) l = l
long_event b (resume s c) l = l
long_event b (dropped s c) l = long_set b book.dropped _ l
long_event b (landed s a v) l = pick_ind Long (in_area a) (λ _. long_touch b l) (λ _. l)
long_event b (whole s c p) l = long_set (more b book.ended) book.whole _ (long_set b book.ended _ l)
long_event b (touched s c p n f t) l = long_set b book.ended _ l

pub long_next : (rom : List ℕ) (w : World) (b line : List ℕ) → Long b → Long (audit_of rom w b line).book
unfolding audit_of
long_next rom w b line l = long_event _ (event_of rom b w (frame_of line)) (long_line b (frame_of line) (number_said (step_of rom w line).text) l)

pub long_all : (rom : List ℕ) (lines : List (List ℕ)) (w : World) (b : List ℕ) → Long b → Long (audit_all rom w b lines).book
unfolding audit_all
long_all rom [] w b l = l
long_all rom (line ∷ rest) w b l = long_all rom rest (audit_of rom w b line).world (audit_of rom w b line).book (long_next rom w b line l)

-- ---- the count of writes

abbrev Same : List ℕ → List ℕ → Type 0
Same b c = noted c writes ≡ noted b writes

same_set : (b : List ℕ) (k v : ℕ) → (writes ≡ k → ⊥) → Same b (set b k v)
same_set b k v h = get_or-set_other b k writes v 0 h

touch_more : (b : List ℕ) → Long b → noted (touch_counted b) writes ≡ one_more (noted b writes)
unfolding touch_counted
touch_more b l =
    let x = set b first (pick (eqb (noted b writes) 0) (noted b lines) (noted b first)) in
    let y = set x last (noted b lines) in
    let long : Long y = long_set x last _ (long_set b first _ l) in
    get_or-set_same y writes (one_more (noted y writes)) 0 (omega (arith, long))
    ∙ ap one_more (same_set x last _ (λ e. omega arith) ∙ same_set b first _ (λ e. omega arith))

touch_first : (b : List ℕ) → Long b → noted (touch_counted b) first ≡ pick (eqb (noted b writes) 0) (noted b lines) (noted b first)
unfolding touch_counted
touch_first b l =
    let v = pick (eqb (noted b writes) 0) (noted b lines) (noted b first) in
    let x = set b first v in
    let y = set x last (noted b lines) in
    get_or-set_other y writes first (one_more (noted y writes)) 0 (λ e. omega arith)
    ∙ get_or-set_other x last first (noted b lines) 0 (λ e. omega arith)
    ∙ get_or-set_same b first v 0 (omega (arith, l))

touch_last : (b : List ℕ) → Long b → noted (touch_counted b) last ≡ noted b lines
unfolding touch_counted
touch_last b l =
    let v = pick (eqb (noted b writes) 0) (noted b lines) (noted b first) in
    let x = set b first v in
    let y = set x last (noted b lines) in
    let long : Long x = long_set b first v l in
    get_or-set_other y writes last (one_more (noted y writes)) 0 (λ e. omega arith) ∙ get_or-set_same x last (noted b lines) 0 (omega (arith, long))

-- a line leaves numbers that it does not count
pub line_keeps : (b : List ℕ) (f : Frame) (n k : ℕ) → (k ≡ lines → ⊥) → (k ≡ row → ⊥) → (k ≡ book.malformed → ⊥) → (k ≡ book.refused → ⊥)
    → noted (line_counted b f n) k ≡ noted b k
unfolding line_counted
line_keeps b f n k p q r s =
    let keep : (c : List ℕ) (j v : ℕ) → (k ≡ j → ⊥) → noted (set c j v) k ≡ noted c k = λ c j v h. get_or-set_other c j k v 0 h in
    let m : noted (more b lines) k ≡ noted b k = keep b lines _ p in
    pick_ind (λ (c : List ℕ). noted c k ≡ noted b k) (is_malformed f) (λ _. keep (more b lines) book.malformed _ r ∙ m)
    (λ _.
    pick_ind (λ (c : List ℕ). noted c k ≡ noted b k) (not (eqb n 0)) (λ _. keep (more b lines) book.refused _ s ∙ m)
    (λ _. pick_ind (λ (c : List ℕ). noted c k ≡ noted b k) (is_row f) (λ _. keep (more b lines) row _ q ∙ m) (λ _. m)))

-- and so does an event, and a write in the area
pub touch_keeps : (b : List ℕ) (k : ℕ) → (k ≡ writes → ⊥) → (k ≡ first → ⊥) → (k ≡ last → ⊥) → noted (touch_counted b) k ≡ noted b k
unfolding touch_counted
touch_keeps b k p q r =
    let x = set b first (pick (eqb (noted b writes) 0) (noted b lines) (noted b first)) in
    let y = set x last (noted b lines) in
    get_or-set_other y writes k (one_more (noted y writes)) 0 p ∙ get_or-set_other x last k (noted b lines) 0 r ∙ get_or-set_other b first k _ 0 q

pub event_keeps : (b : List ℕ) (e : Event) (k : ℕ) → k ≤ 8 → (k ≡ writes → ⊥) → (k ≡ first → ⊥) → (k ≡ last → ⊥) → noted (event_counted b e) k ≡ noted b k
unfolding event_counted
event_keeps b none k few p q r = refl
event_keeps b (start s i n g) k few p q r =
    get_or-set_other (set b writes 0) book.captures k _ 0 (λ e. omega arith) ∙ get_or-set_other b writes k 0 0 p
event_keeps b (stop s c) k few p q r = refl
event_keeps b (resume s c) k few p q r = refl
event_keeps b (dropped s c) k few p q r = get_or-set_other b book.dropped k _ 0 (λ e. omega arith)
event_keeps b (landed s a v) k few p q r = pick_ind (λ (c : List ℕ). noted c k ≡ noted b k) (in_area a) (λ _. touch_keeps b k p q r) (λ _. refl)
event_keeps b (whole s c v) k few p q r =
    get_or-set_other (more b book.ended) book.whole k _ 0 (λ e. omega arith) ∙ get_or-set_other b book.ended k _ 0 (λ e. omega arith)
event_keeps b (touched s c v n f t) k few p q r = get_or-set_other b book.ended k _ 0 (λ e. omega arith)

-- the count of lines
abbrev Lines : List ℕ → List ℕ → Type 0
Lines b c = noted c lines ≡ noted b lines

lines_set : (b : List ℕ) (k v : ℕ) → (lines ≡ k → ⊥) → Lines b (set b k v)
lines_set b k v h = get_or-set_other b k lines v 0 h

line_lines : (b : List ℕ) (f : Frame) (n : ℕ) → Long b → noted (line_counted b f n) lines ≡ one_more (noted b lines)
unfolding line_counted
line_lines b f n l =
    let P : List ℕ → Type 0 = λ c. noted c lines ≡ one_more (noted b lines) in
    let m : P (more b lines) = get_or-set_same b lines (one_more (noted b lines)) 0 (omega (arith, l)) in
    pick_ind P (is_malformed f) (λ _. lines_set (more b lines) book.malformed _ (λ e. omega arith) ∙ m)
    (λ _.
    pick_ind P (not (eqb n 0)) (λ _. lines_set (more b lines) book.refused _ (λ e. omega arith) ∙ m)
    (λ _. pick_ind P (is_row f) (λ _. lines_set (more b lines) row _ (λ e. omega arith) ∙ m) (λ _. m)))

pub one_more_is : (n : ℕ) → n < 0xFFFFFFFFFFFFFFFF → one_more n ≡ n + 1
unfolding one_more
one_more_is n h = rw (lt-ltb n 0xFFFFFFFFFFFFFFFF h)

pub next_lines : (rom : List ℕ) (w : World) (b line : List ℕ) → Long b → noted (audit_of rom w b line).book lines ≡ one_more (noted b lines)
unfolding audit_of
next_lines rom w b line l =
    event_keeps _ (event_of rom b w (frame_of line)) lines (omega arith) (λ e. omega arith) (λ e. omega arith) (λ e. omega arith) ∙ line_lines b (frame_of line) (number_said (step_of rom w line).text) l

-- Line numbers: each line is counted, as far as 64 bits go
pub all_lines : (rom : List ℕ) (ls : List (List ℕ)) (w : World) (b : List ℕ) → Long b → noted b lines + length ls ≤ 0xFFFFFFFFFFFFFFFF
    → noted (audit_all rom w b ls).book lines ≡ noted b lines + length ls
unfolding audit_all
all_lines rom [] w b l h = omega arith
all_lines rom (line ∷ ls) w b l h =
    let n : noted (audit_of rom w b line).book lines ≡ noted b lines + 1 = next_lines rom w b line l ∙ one_more_is (noted b lines) (omega arith) in
    let r = all_lines rom ls (audit_of rom w b line).world (audit_of rom w b line).book (long_next rom w b line l) (omega (arith, n)) in
    omega (arith, n, r)

-- one more is not none
pub one_more_lem : (n : ℕ) → one_more n ≡ 0 → ⊥
unfolding one_more
one_more_lem n =
    pick_ind (λ (m : ℕ). m ≡ 0 → ⊥) (ltb n 0xFFFFFFFFFFFFFFFF) (λ _ e. omega arith) (λ h e. omega (arith, ltb-false n 0xFFFFFFFFFFFFFFFF h))

-- ---- a line while a capture is held

-- a call after which one is held is no reset
pub no_reset : (w : Found) (k : Call) → (leaves w k).state.held ≡ true → is_reset k ≡ false
unfolding is_reset
no_reset w reset h = unfold leaves reset_state in not_both h refl
no_reset w (read rom a) h = refl
no_reset w (write image a v) h = refl
no_reset w (tick n) h = refl
no_reset w inspect h = refl
no_reset w (choose light level plain exposure) h = refl
no_reset w (place file) h = refl

-- it lands where a bus write goes
lands_place : (rom image : List ℕ) (w : Found) (f : Frame) (p : ℕ) → lands_seen w (call_of rom image f) p ≡ true → p ≡ place_of w (call_of rom image f)
unfolding call_of lands_seen goes_in goes_to place_of
lands_place rom image w Reset p h = not_both h refl
lands_place rom image w (Read a) p h = not_both h refl
lands_place rom image w (Write a v) p h =
    let c = w.state in
    let here = eqb p (ram_place c w.ram a) in
    let inner = ram_writable c && here in
    let g : (not (ltb a 0x8000) && (not (registers_on c) && inner)) ≡ true = both_left _ (accepted w (write image a v)) h in
    eqb-true p (ram_place c w.ram a)
    (both_right (ram_writable c) here (both_right (not (registers_on c)) inner (both_right (not (ltb a 0x8000)) (not (registers_on c) && inner) g)))
lands_place rom image w (Tick n) p h = not_both h refl
lands_place rom image w (Row y) p h = not_both h refl
lands_place rom image w Malformed p h = not_both h refl

-- and it is a write of the byte that it brings there
pub lands_write : (rom image : List ℕ) (w : Found) (f : Frame) (p : ℕ) → lands_seen w (call_of rom image f) p ≡ true → (a : ℕ) × (f ≡ Write a (byte_in (call_of rom image f) p))
unfolding call_of lands_seen goes_in byte_in
lands_write rom image w Reset p h = not_both h refl
lands_write rom image w (Read a) p h = not_both h refl
lands_write rom image w (Write a v) p h = (a, refl)
lands_write rom image w (Tick n) p h = not_both h refl
lands_write rom image w (Row y) p h = not_both h refl
lands_write rom image w Malformed p h = not_both h refl

-- a call lands in the area
pub touches : Found → Call → Bool
touches w k = write_seen w k && in_area (place_of w k)

module _ (w : Found) (k : Call) (on : w.state.held ≡ true) (still : (leaves w k).state.held ≡ true) where
  no_start_lem : start_seen w k ≡ false
  unfolding start_seen
  no_start_lem = rw on

  no_end_lem : end_seen w k ≡ false
  unfolding end_seen
  no_end_lem = rw (still, no_reset w k still) (and-false w.state.held)

  no_drop : drop_seen w k ≡ false
  unfolding drop_seen
  no_drop = rw (on, no_reset w k still)

  event_book : (book image b : List ℕ) → event_counted b (seen_of book image w k) ≡ pick (touches w k) (touch_counted b) b
  unfolding seen_of event_counted touches
  event_book book image b =
      rw (no_start_lem, no_end_lem, no_drop)
      (either (write_seen w k)
      (λ h. rw h)
      (λ h.
      rw h
      (pick_ind (λ (e : Event). event_counted b e ≡ b) (stop_seen w k) (λ _. refl)
      (λ _. pick_ind (λ (e : Event). event_counted b e ≡ b) (resume_seen w k) (λ _. refl) (λ _. refl)))))

module _ (rom : List ℕ) (w : World) (b line : List ℕ) (l : Long b) where
  abbrev k : Call
  k = call_of rom w.image (frame_of line)

  module _ (on : w.state.held ≡ true) (still : (leaves (found w) k).state.held ≡ true) where
    abbrev counted : List ℕ
    counted = line_counted b (frame_of line) (number_said (step_of rom w line).text)

    counted_long : Long counted
    counted_long = long_line b (frame_of line) (number_said (step_of rom w line).text) l

    counted_keeps : (j : ℕ) → 3 < j → j < 7 → noted counted j ≡ noted b j
    counted_keeps j low high = line_keeps b (frame_of line) (number_said (step_of rom w line).text) j (λ e. omega arith) (λ e. omega arith) (λ e. omega arith) (λ e. omega arith)

    counted_lines : noted counted lines ≡ one_more (noted b lines)
    counted_lines = line_lines b (frame_of line) (number_said (step_of rom w line).text) l

    line_book : (audit_of rom w b line).book ≡ pick (touches (found w) k) (touch_counted counted) counted
    unfolding audit_of
    line_book = event_book (found w) k on still b w.image counted

    -- one more where it lands in the area, and else what it was
    pub line_writes : noted (audit_of rom w b line).book writes ≡ pick (touches (found w) k) (one_more (noted b writes)) (noted b writes)
    line_writes =
        let same : noted counted writes ≡ noted b writes = counted_keeps writes (omega arith) (omega arith) in
        ap (λ (x : List ℕ). noted x writes) line_book
        ∙ either (touches (found w) k) (λ t. rw t (touch_more counted counted_long ∙ ap one_more same)) (λ t. rw t same)

    -- the first line that lands there, and the last
    line_first : touches (found w) k ≡ true → noted b writes ≡ 0 → noted (audit_of rom w b line).book first ≡ one_more (noted b lines)
    line_first t z =
        ap (λ (x : List ℕ). noted x first) (line_book ∙ ap (λ (x : Bool). pick x (touch_counted counted) counted) t)
        ∙ touch_first counted counted_long
        ∙ ap (λ (x : Bool). pick x (noted counted lines) (noted counted first)) (eq-eqb (noted counted writes) 0 (counted_keeps writes (omega arith) (omega arith) ∙ z))
        ∙ counted_lines

    line_first_stays : (noted b writes ≡ 0 → ⊥) → noted (audit_of rom w b line).book first ≡ noted b first
    line_first_stays some =
        let same : noted counted first ≡ noted b first = counted_keeps first (omega arith) (omega arith) in
        ap (λ (x : List ℕ). noted x first) line_book
        ∙ either (touches (found w) k)
        (λ t.
        rw t
        (touch_first counted counted_long
        ∙ ap (λ (x : Bool). pick x (noted counted lines) (noted counted first)) (ne_eqb (noted counted writes) 0 (λ z. some (sym (counted_keeps writes (omega arith) (omega arith)) ∙ z)))
        ∙ same))
        (λ t. rw t same)

    line_last : touches (found w) k ≡ true → noted (audit_of rom w b line).book last ≡ one_more (noted b lines)
    line_last t =
        ap (λ (x : List ℕ). noted x last) (line_book ∙ ap (λ (x : Bool). pick x (touch_counted counted) counted) t) ∙ touch_last counted counted_long ∙ counted_lines

    line_last_stays : touches (found w) k ≡ false → noted (audit_of rom w b line).book last ≡ noted b last
    line_last_stays t =
        ap (λ (x : List ℕ). noted x last) (line_book ∙ ap (λ (x : Bool). pick x (touch_counted counted) counted) t) ∙ counted_keeps last (omega arith) (omega arith)

    -- none after it: none before it, and it lands nowhere there
    line_none : noted (audit_of rom w b line).book writes ≡ 0 → (noted b writes ≡ 0) × (touches (found w) k ≡ false)
    line_none z =
        either (touches (found w) k)
        (λ t. absurd (one_more_lem (noted b writes) (sym (rw t at line_writes) ∙ z)))
        (λ t. (sym (rw t at line_writes) ∙ z, t))

    lands_nowhere : touches (found w) k ≡ false → (p : ℕ) → in_area p ≡ true → lands_seen (found w) k p ≡ false
    unfolding touches write_seen
    lands_nowhere t p here =
        either (lands_seen (found w) k p)
        (λ h.
        let e : p ≡ place_of (found w) k = lands_place rom w.image (found w) (frame_of line) p h in
        not_both (both_hold (both_hold on (rw e at h)) (rw e at here)) t)
        (λ h. h)

-- ---- lines through which one is held

-- the first of them
first_held : (rom : List ℕ) (w : World) (line : List ℕ) (rest : List (List ℕ)) → held_through (found w) (calls_of rom w (line ∷ rest)) ≡ true
    → (w.state.held ≡ true) × ((leaves (found w) (call_of rom w.image (frame_of line))).state.held ≡ true)
    × (held_through (found (step_of rom w line).world) (calls_of rom (step_of rom w line).world rest) ≡ true)
unfolding calls_of held_through
first_held rom w line rest h =
    let k = call_of rom w.image (frame_of line) in
    let cs = calls_of rom (step_of rom w line).world rest in
    let r : held_through (leaves (found w) k) cs ≡ true = both_right w.state.held (held_through (leaves (found w) k) cs) h in
    (both_left w.state.held (held_through (leaves (found w) k) cs) h, now (leaves (found w) k) cs r, rw (line_found rom w line) r)
  where
    now : (x : Found) (cs : List Call) → held_through x cs ≡ true → x.state.held ≡ true
    now x [] h = h
    now x (c ∷ cs) h = both_left x.state.held (held_through (leaves x c) cs) h

-- No writes: where the book has none at the end, it had none, and none landed in the area
pub none_landed : (rom : List ℕ) (lines : List (List ℕ)) (w : World) (b : List ℕ) → Long b → held_through (found w) (calls_of rom w lines) ≡ true
    → noted (audit_all rom w b lines).book writes ≡ 0 → (noted b writes ≡ 0) × AreaLeft (found w) (calls_of rom w lines)
unfolding audit_all audit_of calls_of landed_seen
none_landed rom [] w b l h z = (z, λ p here. refl)
none_landed rom (line ∷ rest) w b l h z =
    let f = first_held rom w line rest h in
    let r = none_landed rom rest (step_of rom w line).world (audit_of rom w b line).book (long_next rom w b line l) f.2 z in
    let n = line_none rom w b line l f.0 f.1 r.0 in
    (n.0, λ p here. rw (lands_nowhere rom w b line l f.0 f.1 n.1 p here, ← line_found rom w line, r.1 p here))

-- None landed: where it had none and none landed in the area, it has none at the end
pub left_none : (rom : List ℕ) (lines : List (List ℕ)) (w : World) (b : List ℕ) → Long b → held_through (found w) (calls_of rom w lines) ≡ true
    → AreaLeft (found w) (calls_of rom w lines) → noted b writes ≡ 0 → noted (audit_all rom w b lines).book writes ≡ 0
unfolding audit_all audit_of calls_of landed_seen
left_none rom [] w b l h left z = z
left_none rom (line ∷ rest) w b l h left z =
    let f = first_held rom w line rest h in
    let k = call_of rom w.image (frame_of line) in
    let off : touches (found w) k ≡ false =
    unfold touches write_seen in
    either (in_area (place_of (found w) k))
    (λ here. rw (neither_left (lands_seen (found w) k (place_of (found w) k)) _ (left (place_of (found w) k) here), and-false))
    (λ out. rw (out, and-false)) in
    left_none rom rest (step_of rom w line).world (audit_of rom w b line).book (long_next rom w b line l) f.2
    (λ p here. rw (line_found rom w line) (neither_right (lands_seen (found w) k p) _ (left p here)))
    ((rw off at (line_writes rom w b line l f.0 f.1)) ∙ z)

-- a line among lines that lands in the area
pub record FoundLanding (rom : List ℕ) (w : World) (b : List ℕ) (lines : List (List ℕ)) : Type 0 where
  pub earlier : List (List ℕ)
  pub line : List ℕ
  pub later : List (List ℕ)
  pub among : lines ≡ earlier ++ (line ∷ later)
  pub at : ℕ
  pub inside : in_area at ≡ true
  pub lands : lands_seen (found (audit_all rom w b earlier).world) (call_of rom (audit_all rom w b earlier).world.image (frame_of line)) at ≡ true

-- the first of them, of lines that 64 bits can number
pub record First (rom : List ℕ) (w : World) (b : List ℕ) (ls : List (List ℕ)) (n : ℕ) : Type 0 where
  pub landing : FoundLanding rom w b ls
  pub left : AreaLeft (found w) (calls_of rom w landing.earlier)
  pub number : noted b lines + length ls ≤ 0xFFFFFFFFFFFFFFFF → n ≡ noted b lines + length landing.earlier + 1

-- the first line's number stays while there are some
first_stays : (rom : List ℕ) (ls : List (List ℕ)) (w : World) (b : List ℕ) → Long b → held_through (found w) (calls_of rom w ls) ≡ true
    → (noted b writes ≡ 0 → ⊥) → noted (audit_all rom w b ls).book first ≡ noted b first
unfolding audit_all audit_of
first_stays rom [] w b l h some = refl
first_stays rom (line ∷ ls) w b l h some =
    let f = first_held rom w line ls h in
    let still : noted (audit_of rom w b line).book writes ≡ 0 → ⊥ = λ z. some (line_none rom w b line l f.0 f.1 z).0 in
    first_stays rom ls (step_of rom w line).world (audit_of rom w b line).book (long_next rom w b line l) f.2 still ∙ line_first_stays rom w b line l f.0 f.1 some

-- a line that lands in the area, before others
lands_here : (rom : List ℕ) (w : World) (b line : List ℕ) (ls : List (List ℕ)) → touches (found w) (call_of rom w.image (frame_of line)) ≡ true → FoundLanding rom w b (line ∷ ls)
unfolding audit_all touches write_seen
lands_here rom w b line ls t =
    let k = call_of rom w.image (frame_of line) in
    let at = place_of (found w) k in
    record {
      earlier = [];
      line = line;
      later = ls;
      among = refl;
      at = at;
      inside = both_right (w.state.held && lands_seen (found w) k at) (in_area at) t;
      lands = both_right w.state.held (lands_seen (found w) k at) (both_left (w.state.held && lands_seen (found w) k at) (in_area at) t);
    }

-- one after a line
lands_later : (rom : List ℕ) (w : World) (b line : List ℕ) (ls : List (List ℕ)) → FoundLanding rom (step_of rom w line).world (audit_of rom w b line).book ls → FoundLanding rom w b (line ∷ ls)
unfolding audit_all audit_of
lands_later rom w b line ls r =
    record { earlier = line ∷ r.earlier; line = r.line; later = r.later; among = (λ i. line ∷ r.among i); at = r.at; inside = r.inside; lands = r.lands }

-- none landed in the area in a line, nor in lines after it
area_more : (rom : List ℕ) (w : World) (b line : List ℕ) (ls : List (List ℕ)) → Long b → w.state.held ≡ true → (leaves (found w) (call_of rom w.image (frame_of line))).state.held ≡ true
    → touches (found w) (call_of rom w.image (frame_of line)) ≡ false
    → AreaLeft (found (step_of rom w line).world) (calls_of rom (step_of rom w line).world ls) → AreaLeft (found w) (calls_of rom w (line ∷ ls))
unfolding calls_of landed_seen
area_more rom w b line ls l on still t left p here = rw (lands_nowhere rom w b line l on still t p here, ← line_found rom w line, left p here)

-- Some writes: where the book has some at the end and had none, some landed in the area, and it has the number of the first line that did
pub first_landed : (rom : List ℕ) (ls : List (List ℕ)) (w : World) (b : List ℕ) → Long b → held_through (found w) (calls_of rom w ls) ≡ true
    → noted b writes ≡ 0 → (noted (audit_all rom w b ls).book writes ≡ 0 → ⊥) → First rom w b ls (noted (audit_all rom w b ls).book first)
unfolding audit_all audit_of calls_of landed_seen lands_here lands_later
first_landed rom [] w b l h z some = absurd (some z)
first_landed rom (line ∷ ls) w b l h z some =
    let f = first_held rom w line ls h in
    let k = call_of rom w.image (frame_of line) in
    let w' = (step_of rom w line).world in
    let b' = (audit_of rom w b line).book in
    let long = long_next rom w b line l in
    either (touches (found w) k)
    (λ t.
    let now : noted b' writes ≡ 0 → ⊥ = λ y. not_both t (line_none rom w b line l f.0 f.1 y).1 in
    record {
      landing = lands_here rom w b line ls t;
      left = λ p here. refl;
      number = λ most. first_stays rom ls w' b' long f.2 now ∙ line_first rom w b line l f.0 f.1 t z ∙ one_more_is (noted b lines) (omega arith) ∙ omega arith;
    })
    (λ t.
    let none : noted b' writes ≡ 0 = (rw t at (line_writes rom w b line l f.0 f.1)) ∙ z in
    let r = first_landed rom ls w' b' long f.2 none some in
    record {
      landing = lands_later rom w b line ls r.landing;
      left = area_more rom w b line r.landing.earlier l f.0 f.1 t r.left;
      number = λ most.
          let n : noted b' lines ≡ noted b lines + 1 = next_lines rom w b line l ∙ one_more_is (noted b lines) (omega arith) in
          r.number (omega (arith, n)) ∙ omega (arith, n);
    })

-- the last of them
pub record Last (rom : List ℕ) (w : World) (b : List ℕ) (ls : List (List ℕ)) (n : ℕ) : Type 0 where
  pub landing : FoundLanding rom w b ls
  pub left : AreaLeft (found (audit_all rom w b (landing.earlier ++ (landing.line ∷ []))).world) (calls_of rom (audit_all rom w b (landing.earlier ++ (landing.line ∷ []))).world landing.later)
  pub number : noted b lines + length ls ≤ 0xFFFFFFFFFFFFFFFF → n ≡ noted b lines + length landing.earlier + 1

-- Last line: some landed, and the book has the number of the last line that did; or none did, and it has what it had
last_landed : {X : Type 0} (rom : List ℕ) (ls : List (List ℕ)) (w : World) (b : List ℕ) → Long b → held_through (found w) (calls_of rom w ls) ≡ true
    → (AreaLeft (found w) (calls_of rom w ls) → noted (audit_all rom w b ls).book last ≡ noted b last → X)
    → (Last rom w b ls (noted (audit_all rom w b ls).book last) → X) → X
unfolding audit_all audit_of calls_of landed_seen lands_here lands_later
last_landed rom [] w b l h clear some = clear (λ p here. refl) refl
last_landed rom (line ∷ ls) w b l h clear some =
    let f = first_held rom w line ls h in
    let k = call_of rom w.image (frame_of line) in
    let w' = (step_of rom w line).world in
    let b' = (audit_of rom w b line).book in
    last_landed rom ls w' b' (long_next rom w b line l) f.2
    (λ left e.
    either (touches (found w) k)
    (λ t.
    some
    (record {
      landing = lands_here rom w b line ls t;
      left = left;
      number = λ most. e ∙ line_last rom w b line l f.0 f.1 t ∙ one_more_is (noted b lines) (omega arith) ∙ omega arith;
    }))
    (λ t. clear (area_more rom w b line ls l f.0 f.1 t left) (e ∙ line_last_stays rom w b line l f.0 f.1 t)))
    (λ r.
    some
    (record {
      landing = lands_later rom w b line ls r.landing;
      left = r.left;
      number = λ most.
          let n : noted b' lines ≡ noted b lines + 1 = next_lines rom w b line l ∙ one_more_is (noted b lines) (omega arith) in
          r.number (omega (arith, n)) ∙ omega (arith, n);
    }))

pub some_last : (rom : List ℕ) (ls : List (List ℕ)) (w : World) (b : List ℕ) → Long b → held_through (found w) (calls_of rom w ls) ≡ true
    → noted b writes ≡ 0 → (noted (audit_all rom w b ls).book writes ≡ 0 → ⊥) → Last rom w b ls (noted (audit_all rom w b ls).book last)
some_last rom ls w b l h z some = last_landed rom ls w b l h (λ left e. absurd (some (left_none rom ls w b l h left z))) (λ r. r)

pub counts_one : (t : Bool) (n : ℕ) → one_more n ≡ n + 1 → pick t (one_more n) n ≡ n + pick t 1 0
counts_one true n e = e
counts_one false n e = omega arith

-- Writes counted: the book counts the lines that land there, as far as 64 bits go
pub writes_counted : (rom : List ℕ) (ls : List (List ℕ)) (w : World) (b : List ℕ) → Long b → held_through (found w) (calls_of rom w ls) ≡ true
    → noted b writes + length ls ≤ 0xFFFFFFFFFFFFFFFF → noted (audit_all rom w b ls).book writes ≡ noted b writes + landings rom w ls
unfolding audit_all audit_of landings
writes_counted rom [] w b l h most = omega arith
writes_counted rom (line ∷ ls) w b l h most =
    let f = first_held rom w line ls h in
    let k = call_of rom w.image (frame_of line) in
    let b' = (audit_of rom w b line).book in
    let same : touches (found w) k ≡ lands_in_area (found w) k = unfold touches write_seen lands_in_area in rw f.0 in
    let n : noted b' writes ≡ noted b writes + pick (lands_in_area (found w) k) 1 0 =
    line_writes rom w b line l f.0 f.1
    ∙ ap (λ (t : Bool). pick t (one_more (noted b writes)) (noted b writes)) same
    ∙ counts_one (lands_in_area (found w) k) (noted b writes) (one_more_is (noted b writes) (omega arith)) in
    let few : pick (lands_in_area (found w) k) 1 0 ≤ 1 = pick_ind (λ (x : ℕ). x ≤ 1) (lands_in_area (found w) k) (λ _. omega arith) (λ _. omega arith) in
    let r = writes_counted rom ls (step_of rom w line).world b' (long_next rom w b line l) f.2 (omega (arith, n, few)) in
    r ∙ omega (arith, n)

-- a start has none
pub start_none : (b : List ℕ) (s i r : ℕ) (g : List ℕ) → Long b → noted (event_counted b (start s i r g)) writes ≡ 0
unfolding event_counted
start_none b s i r g l =
    same_set (set b writes 0) book.captures _ (λ e. omega arith) ∙ get_or-set_same b writes 0 0 (omega (arith, l))
