-- The book's counts: the last line that lent a row, and what a summary says of any lines from reset on. Assumes nothing.
use mathlib.Core.Path.{◌≡◌, refl, sym, ap, ◌∙◌}
use mathlib.Core.Bool.{Bool, true, false, not, ◌&&◌, ◌||◌, and-false}
use mathlib.Core.List.{List, [], ◌∷◌}
use Prim.Native.Nat.{ℕ, ◌+◌, ◌<◌, ◌≤◌}
use native.Mathlib.Omega.{arith}
use lib.Dec.{eqb}
use lib.ListN.{length, set}
use lib.Seq.{get_or-set_same, get_or-set_other}
use borrow.Author.Tests.{eqb-true, eqb-false, ne_eqb}
use Rattle.laws.specs.Pick.{pick}
use Rattle.laws.proofs.Bools.{either, not_both}
use Rattle.laws.proofs.Pick.{pick_ind}
use Rattle.crc.specs.Crc.{crc_of}
use Rattle.controller.specs.State.{reset_state}
use Rattle.plates.specs.Grey.{plate_of}
use Rattle.history.specs.History.{Call, leaves}
use Rattle.history.specs.History.{World as Found}
use Rattle.history.specs.Seen.{is_reset, start_seen, end_seen, in_area}
use Rattle.lines.specs.declared.line.Frame.{Frame}
use Rattle.lines.specs.declared.line.Frame.TheVariants.{Reset, Read, Write, Tick, Row, Malformed}
use Rattle.lines.specs.Line.{frame_of}
use Rattle.session.specs.Answer.{number_said}
use Rattle.session.specs.Session.{World, step_of}
use Rattle.events.specs.Book.{noted, new_book, more, one_more, lines, row, writes}
use Rattle.events.specs.Book as book
use Rattle.events.specs.Event.{Event, none, start, stop, resume, dropped, landed, whole, touched, found, stop_seen, resume_seen, drop_seen, write_seen, cycles_of, end_of, seen_of, event_of}
use Rattle.events.specs.Entry.{event_counted}
use Rattle.auditing.specs.Line.{is_malformed, is_row, line_counted, audit_of, audit_all}
use Rattle.audited.specs.Sessions.{at_reset}
use Rattle.audited.specs.Told.{accepted, last_row}
use Rattle.audited.specs.Summed.{how_many, malformed_line, refused_line, line_call, start_line, end_line, drop_line, is_whole, whole_line, touched_line, Summed}
use Rattle.audited.proofs.Sessions.{line_found}
use Rattle.audited.proofs.Writes.{Long, long_set, long_line, long_next, line_keeps, touch_keeps, event_keeps, one_more_is, next_lines, no_reset, counts_one}

-- ---- one number of a book

keep : (b : List ℕ) (j k v : ℕ) → (k ≡ j → ⊥) → noted (set b j v) k ≡ noted b k
keep b j k v h = get_or-set_other b j k v 0 h

-- one more of it
one_here : (b : List ℕ) (k : ℕ) → Long b → k < 13 → noted (more b k) k ≡ one_more (noted b k)
one_here b k l small = get_or-set_same b k (one_more (noted b k)) 0 (omega (arith, l))

-- one more of another, or of it
one_set : (b : List ℕ) (j k : ℕ) → Long b → j < 13 → noted (more b j) k ≡ pick (eqb k j) (one_more (noted b k)) (noted b k)
one_set b j k l small =
    either (eqb k j)
    (λ t. let e : k ≡ j = eqb-true k j t in rw t (rw e (one_here b j l small)))
    (λ t. rw t (keep b j k (one_more (noted b j)) (eqb-false k j t)))

-- ---- what a line adds

no_row : (f : Frame) → is_malformed f ≡ true → is_row f ≡ false
unfolding is_malformed is_row
no_row Reset h = refl
no_row (Read a) h = refl
no_row (Write a v) h = refl
no_row (Tick n) h = refl
no_row (Row y) h = not_both h refl
no_row Malformed h = refl

module _ (b : List ℕ) (f : Frame) (n : ℕ) (l : Long b) where
  abbrev c : List ℕ
  c = more b lines

  long_c : Long c
  long_c = long_set b lines (one_more (noted b lines)) l

  other : (k : ℕ) → (k ≡ lines → ⊥) → noted c k ≡ noted b k
  other k h = keep b lines k (one_more (noted b lines)) h

  line_malformed : noted (line_counted b f n) book.malformed ≡ pick (is_malformed f) (one_more (noted b book.malformed)) (noted b book.malformed)
  unfolding line_counted
  line_malformed =
      let m = other book.malformed (λ e. omega arith) in
      let P : List ℕ → Type 0 = λ x. noted x book.malformed ≡ noted b book.malformed in
      either (is_malformed f)
      (λ t. rw t (one_here c book.malformed long_c (omega arith) ∙ ap one_more m))
      (λ t.
      rw t
      (pick_ind P (not (eqb n 0)) (λ _. keep c book.refused book.malformed _ (λ e. omega arith) ∙ m)
      (λ _. pick_ind P (is_row f) (λ _. keep c row book.malformed _ (λ e. omega arith) ∙ m) (λ _. m))))

  line_refused : noted (line_counted b f n) book.refused ≡ pick (not (is_malformed f) && not (eqb n 0)) (one_more (noted b book.refused)) (noted b book.refused)
  unfolding line_counted
  line_refused =
      let m = other book.refused (λ e. omega arith) in
      let P : List ℕ → Type 0 = λ x. noted x book.refused ≡ noted b book.refused in
      either (is_malformed f)
      (λ t. rw t (keep c book.malformed book.refused _ (λ e. omega arith) ∙ m))
      (λ t.
      either (eqb n 0)
      (λ u. rw (t, u) (pick_ind P (is_row f) (λ _. keep c row book.refused _ (λ e. omega arith) ∙ m) (λ _. m)))
      (λ u. rw (t, u) (one_here c book.refused long_c (omega arith) ∙ ap one_more m)))

  line_row : noted (line_counted b f n) row ≡ pick (is_row f && eqb n 0) (one_more (noted b lines)) (noted b row)
  unfolding line_counted
  line_row =
      let m = other row (λ e. omega arith) in
      either (is_malformed f)
      (λ t. rw (t, no_row f t) (keep c book.malformed row _ (λ e. omega arith) ∙ m))
      (λ t.
      either (eqb n 0)
      (λ u.
      either (is_row f)
      (λ v. rw (t, u, v) (get_or-set_same c row (noted c lines) 0 (omega (arith, long_c)) ∙ one_here b lines l (omega arith)))
      (λ v. rw (t, u, v) m))
      (λ u. rw (t, u, and-false (is_row f)) (keep c book.refused row _ (λ e. omega arith) ∙ m)))

-- ---- what an event adds

-- to which of the counts of captures it adds one
adds : ℕ → Event → Bool
adds k none = false
adds k (start s i r g) = eqb k book.captures
adds k (stop s c) = false
adds k (resume s c) = false
adds k (dropped s c) = eqb k book.dropped
adds k (landed s a v) = false
adds k (whole s c p) = eqb k book.ended || eqb k book.whole
adds k (touched s c p n f t) = eqb k book.ended

two_adds : (p q : Bool) (n : ℕ) → (q ≡ true → p ≡ false) → pick q (one_more (pick p (one_more n) n)) (pick p (one_more n) n) ≡ pick (p || q) (one_more n) n
two_adds true true n h = not_both refl (h refl)
two_adds true false n h = refl
two_adds false true n h = refl
two_adds false false n h = refl

event_adds : (b : List ℕ) (e : Event) (k : ℕ) → Long b → 8 < k → noted (event_counted b e) k ≡ pick (adds k e) (one_more (noted b k)) (noted b k)
unfolding event_counted adds
event_adds b none k l h = refl
event_adds b (start s i r g) k l h =
    let m : noted (set b writes 0) k ≡ noted b k = keep b writes k 0 (λ e. omega arith) in
    one_set (set b writes 0) book.captures k (long_set b writes 0 l) (omega arith) ∙ (λ i. pick (eqb k book.captures) (one_more (m i)) (m i))
event_adds b (stop s c) k l h = refl
event_adds b (resume s c) k l h = refl
event_adds b (dropped s c) k l h = one_set b book.dropped k l (omega arith)
event_adds b (landed s a v) k l h =
    pick_ind (λ (x : List ℕ). noted x k ≡ noted b k) (in_area a) (λ _. touch_keeps b k (λ e. omega arith) (λ e. omega arith) (λ e. omega arith)) (λ _. refl)
event_adds b (whole s c p) k l h =
    let m = one_set b book.ended k l (omega arith) in
    one_set (more b book.ended) book.whole k (long_set b book.ended (one_more (noted b book.ended)) l) (omega arith)
    ∙ (λ i. pick (eqb k book.whole) (one_more (m i)) (m i))
    ∙ two_adds (eqb k book.ended) (eqb k book.whole) (noted b k) (λ t. ne_eqb k book.ended (λ e. omega (arith, eqb-true k book.whole t)))
event_adds b (touched s c p n f t) k l h = one_set b book.ended k l (omega arith)

-- of what is seen of a call, the last three add nothing
adds_pick : (k : ℕ) (x y z u v o : Event) (s e d l t r : Bool) → adds k u ≡ false → adds k v ≡ false → adds k o ≡ false
    → adds k (pick s x (pick e y (pick d z (pick l u (pick t v (pick r o none)))))) ≡ pick s (adds k x) (pick e (adds k y) (pick d (adds k z) false))
unfolding adds
adds_pick k x y z u v o true e d l t r p q w = refl
adds_pick k x y z u v o false true d l t r p q w = refl
adds_pick k x y z u v o false false true l t r p q w = refl
adds_pick k x y z u v o false false false true t r p q w = p
adds_pick k x y z u v o false false false false true r p q w = q
adds_pick k x y z u v o false false false false false true p q w = w
adds_pick k x y z u v o false false false false false false p q w = refl

-- a capture that is held before and after, and a reset: what is seen of them
of_start : (h k r : Bool) → pick (not h && k) true (pick (h && (not r && not k)) false (pick (h && r) false false)) ≡ (not h && k)
of_start true k true = refl
of_start true true false = refl
of_start true false false = refl
of_start false true r = refl
of_start false false r = refl

of_end : (h k r : Bool) → pick (not h && k) false (pick (h && (not r && not k)) true (pick (h && r) false false)) ≡ (h && (not r && not k))
of_end true k true = refl
of_end true true false = refl
of_end true false false = refl
of_end false true r = refl
of_end false false r = refl

of_drop : (h k r : Bool) → pick (not h && k) false (pick (h && (not r && not k)) false (pick (h && r) true false)) ≡ (h && r)
of_drop true k true = refl
of_drop true true false = refl
of_drop true false false = refl
of_drop false true r = refl
of_drop false false r = refl

-- and they are as many: one that is held or starts ends, is dropped, or is held then
balance : (h k r : Bool) → (r ≡ true → k ≡ false) → ◌≡◌ {A = ℕ} (pick h 1 0 + pick (not h && k) 1 0) (pick (h && (not r && not k)) 1 0 + pick (h && r) 1 0 + pick k 1 0)
balance true true true f = not_both refl (f refl)
balance true true false f = refl
balance true false true f = refl
balance true false false f = refl
balance false true r f = refl
balance false false r f = refl

only_end : (s e d x : Bool) → pick s false (pick e x (pick d false false)) ≡ true → e ≡ true
only_end true e d x h = not_both h refl
only_end false true d x h = refl
only_end false false true x h = not_both h refl
only_end false false false x h = not_both h refl

module _ (b image : List ℕ) (w : Found) (c : Call) where
  abbrev over : Event
  over = end_of b w.state.started (cycles_of w c) (crc_of (plate_of (leaves w c).ram))

  seen_adds : (k : ℕ) → adds k (seen_of b image w c)
      ≡ pick (start_seen w c) (eqb k book.captures) (pick (end_seen w c) (adds k over) (pick (drop_seen w c) (eqb k book.dropped) false))
  unfolding seen_of adds
  seen_adds k = adds_pick k _ over _ _ _ _ (start_seen w c) (end_seen w c) (drop_seen w c) (write_seen w c) (stop_seen w c) (resume_seen w c) refl refl refl

  -- an end is one that is whole or touched
  end_adds : (k : ℕ) (t : Bool) → (eqb k book.ended || eqb k book.whole) ≡ t → eqb k book.ended ≡ t → adds k over ≡ t
  unfolding adds end_of
  end_adds k t p q = pick_ind (λ (e : Event). adds k e ≡ t) (eqb (noted b writes) 0) (λ _. p) (λ _. q)

  starts_same : adds book.captures (seen_of b image w c) ≡ start_seen w c
  unfolding start_seen end_seen drop_seen
  starts_same =
      seen_adds book.captures
      ∙ ap (λ (t : Bool). pick (start_seen w c) true (pick (end_seen w c) t (pick (drop_seen w c) false false))) (end_adds book.captures false refl refl)
      ∙ of_start w.state.held (leaves w c).state.held (is_reset c)

  ends_same : adds book.ended (seen_of b image w c) ≡ end_seen w c
  unfolding start_seen end_seen drop_seen
  ends_same =
      seen_adds book.ended
      ∙ ap (λ (t : Bool). pick (start_seen w c) false (pick (end_seen w c) t (pick (drop_seen w c) false false))) (end_adds book.ended true refl refl)
      ∙ of_end w.state.held (leaves w c).state.held (is_reset c)

  drops_same : adds book.dropped (seen_of b image w c) ≡ drop_seen w c
  unfolding start_seen end_seen drop_seen
  drops_same =
      seen_adds book.dropped
      ∙ ap (λ (t : Bool). pick (start_seen w c) false (pick (end_seen w c) t (pick (drop_seen w c) true false))) (end_adds book.dropped false refl refl)
      ∙ of_drop w.state.held (leaves w c).state.held (is_reset c)

whole_same : (e : Event) → adds book.whole e ≡ is_whole e
unfolding adds is_whole
whole_same none = refl
whole_same (start s i r g) = refl
whole_same (stop s c) = refl
whole_same (resume s c) = refl
whole_same (dropped s c) = refl
whole_same (landed s a v) = refl
whole_same (whole s c p) = refl
whole_same (touched s c p n f t) = refl

-- ---- one line

module _ (rom : List ℕ) (w : World) (b line : List ℕ) where
  abbrev f : Frame
  f = frame_of line

  abbrev number : ℕ
  number = number_said (step_of rom w line).text

  abbrev k : Call
  k = line_call rom w line

  -- a whole end is an end
  whole_ends : whole_line rom w b line ≡ true → end_line rom w b line ≡ true
  whole_ends h =
      only_end (start_seen (found w) k) (end_seen (found w) k) (drop_seen (found w) k) (adds book.whole (over b w.image (found w) k))
      (sym (seen_adds b w.image (found w) k book.whole) ∙ whole_same (event_of rom b w f) ∙ h)

  ends_split : pick (end_line rom w b line) 1 0 ≡ pick (whole_line rom w b line) 1 0 + pick (touched_line rom w b line) 1 0
  ends_split = by (end_line rom w b line) (whole_line rom w b line) whole_ends
    where
      by : (e x : Bool) → (x ≡ true → e ≡ true) → ◌≡◌ {A = ℕ} (pick e 1 0) (pick x 1 0 + pick (e && not x) 1 0)
      by true true g = refl
      by true false g = refl
      by false true g = not_both (g refl) refl
      by false false g = refl

  line_balance : pick w.state.held 1 0 + pick (start_line rom w b line) 1 0
      ≡ pick (end_line rom w b line) 1 0 + pick (drop_line rom w b line) 1 0 + pick (step_of rom w line).world.state.held 1 0
  unfolding start_seen end_seen drop_seen
  line_balance =
      balance w.state.held (leaves (found w) k).state.held (is_reset k)
      (λ r. either (leaves (found w) k).state.held (λ on. not_both r (no_reset (found w) k on)) (λ off. off))
      ∙ ap (λ (t : Bool). pick (end_seen (found w) k) 1 0 + pick (drop_seen (found w) k) 1 0 + pick t 1 0) (sym (ap (λ (x : Found). x.state.held) (line_found rom w line)))

  module _ (l : Long b) where
    malformed_next : noted (audit_of rom w b line).book book.malformed ≡ pick (malformed_line rom w b line) (one_more (noted b book.malformed)) (noted b book.malformed)
    unfolding audit_of
    malformed_next =
        event_keeps _ (event_of rom b w f) book.malformed (omega arith) (λ e. omega arith) (λ e. omega arith) (λ e. omega arith) ∙ line_malformed b f number l

    refused_next : noted (audit_of rom w b line).book book.refused ≡ pick (refused_line rom w b line) (one_more (noted b book.refused)) (noted b book.refused)
    unfolding audit_of
    refused_next =
        event_keeps _ (event_of rom b w f) book.refused (omega arith) (λ e. omega arith) (λ e. omega arith) (λ e. omega arith) ∙ line_refused b f number l

    row_next : noted (audit_of rom w b line).book row ≡ pick (is_row f && accepted rom w line) (one_more (noted b lines)) (noted b row)
    unfolding audit_of
    row_next = event_keeps _ (event_of rom b w f) row (omega arith) (λ e. omega arith) (λ e. omega arith) (λ e. omega arith) ∙ line_row b f number l

    event_next : (j : ℕ) → 8 < j → noted (audit_of rom w b line).book j ≡ pick (adds j (event_of rom b w f)) (one_more (noted b j)) (noted b j)
    unfolding audit_of
    event_next j h =
        let m : noted (line_counted b f number) j ≡ noted b j = line_keeps b f number j (λ e. omega arith) (λ e. omega arith) (λ e. omega arith) (λ e. omega arith) in
        event_adds (line_counted b f number) (event_of rom b w f) j (long_line b f number l) h ∙ (λ i. pick (adds j (event_of rom b w f)) (one_more (m i)) (m i))

    such_next : (j : ℕ) → 8 < j → (t : Bool) → adds j (event_of rom b w f) ≡ t → noted (audit_of rom w b line).book j ≡ pick t (one_more (noted b j)) (noted b j)
    such_next j h t e = event_next j h ∙ ap (λ (x : Bool). pick x (one_more (noted b j)) (noted b j)) e

-- ---- lines

-- Rows: the book has the number of the last line that lent a row, as far as 64 bits go
pub row_counted : (rom : List ℕ) (ls : List (List ℕ)) (w : World) (b : List ℕ) → Long b → noted b lines + length ls ≤ 0xFFFFFFFFFFFFFFFF
    → noted (audit_all rom w b ls).book row ≡ last_row rom w (noted b lines) (noted b row) ls
unfolding audit_all audit_of last_row
row_counted rom [] w b l most = refl
row_counted rom (line ∷ ls) w b l most =
    let one : one_more (noted b lines) ≡ noted b lines + 1 = one_more_is (noted b lines) (omega arith) in
    let n : noted (audit_of rom w b line).book lines ≡ noted b lines + 1 = next_lines rom w b line l ∙ one in
    let q : noted (audit_of rom w b line).book row ≡ pick (is_row (frame_of line) && accepted rom w line) (noted b lines + 1) (noted b row) =
    row_next rom w b line l ∙ ap (λ (x : ℕ). pick (is_row (frame_of line) && accepted rom w line) x (noted b row)) one in
    row_counted rom ls (step_of rom w line).world (audit_of rom w b line).book (long_next rom w b line l) (omega (arith, n))
    ∙ (λ i. last_row rom (step_of rom w line).world (n i) (q i) ls)

-- a number that each line counts is how many lines it counts, as far as 64 bits go
count_all : (rom : List ℕ) (k : ℕ) (such : World → List ℕ → List ℕ → Bool)
    → ((w : World) (b line : List ℕ) → Long b → noted (audit_of rom w b line).book k ≡ pick (such w b line) (one_more (noted b k)) (noted b k))
    → (ls : List (List ℕ)) (w : World) (b : List ℕ) → Long b → noted b k + length ls ≤ 0xFFFFFFFFFFFFFFFF → noted (audit_all rom w b ls).book k ≡ noted b k + how_many such rom w b ls
unfolding audit_all how_many
count_all rom k such each [] w b l most = omega arith
count_all rom k such each (line ∷ ls) w b l most =
    let b' = (audit_of rom w b line).book in
    let n : noted b' k ≡ noted b k + pick (such w b line) 1 0 = each w b line l ∙ counts_one (such w b line) (noted b k) (one_more_is (noted b k) (omega arith)) in
    let few : pick (such w b line) 1 0 ≤ 1 = pick_ind (λ (x : ℕ). x ≤ 1) (such w b line) (λ _. omega arith) (λ _. omega arith) in
    let r = count_all rom k such each ls (audit_of rom w b line).world b' (long_next rom w b line l) (omega (arith, n, few)) in
    r ∙ omega (arith, n)

balance_all : (rom : List ℕ) (ls : List (List ℕ)) (w : World) (b : List ℕ) → pick w.state.held 1 0 + how_many (start_line rom) rom w b ls
    ≡ how_many (end_line rom) rom w b ls + how_many (drop_line rom) rom w b ls + pick (audit_all rom w b ls).world.state.held 1 0
unfolding audit_all audit_of how_many
balance_all rom [] w b = omega arith
balance_all rom (line ∷ ls) w b =
    omega (arith, line_balance rom w b line, balance_all rom ls (step_of rom w line).world (audit_of rom w b line).book)

ends_all : (rom : List ℕ) (ls : List (List ℕ)) (w : World) (b : List ℕ)
    → how_many (end_line rom) rom w b ls ≡ how_many (whole_line rom) rom w b ls + how_many (touched_line rom) rom w b ls
unfolding how_many
ends_all rom [] w b = refl
ends_all rom (line ∷ ls) w b = omega (arith, ends_split rom w b line, ends_all rom ls (audit_of rom w b line).world (audit_of rom w b line).book)

-- Summed: from reset and with a new book, what the summary says of any lines that 64 bits can number
pub summed : (rom ram store image : List ℕ) (ls : List (List ℕ)) → length ls ≤ 0xFFFFFFFFFFFFFFFF → Summed rom (at_reset ram store image) ls
summed rom ram store image ls most =
    let w = at_reset ram store image in
    let counted : (k : ℕ) (such : World → List ℕ → List ℕ → Bool) → noted new_book k ≡ 0
    → ((w : World) (b line : List ℕ) → Long b → noted (audit_of rom w b line).book k ≡ pick (such w b line) (one_more (noted b k)) (noted b k))
    → noted (audit_all rom w new_book ls).book k ≡ how_many such rom w new_book ls =
    λ k such z each. count_all rom k such each ls w new_book refl (omega (arith, z, most)) ∙ omega (arith, z) in
    let e = counted book.ended (end_line rom) refl (λ v b line l. such_next rom v b line l book.ended (omega arith) _ (ends_same b v.image (found v) (line_call rom v line))) in
    let o = counted book.whole (whole_line rom) refl (λ v b line l. such_next rom v b line l book.whole (omega arith) _ (whole_same (event_of rom b v (frame_of line)))) in
    let t = ends_all rom ls w new_book in
    let z : ◌≡◌ {A = ℕ} (pick reset_state.held 1 0) 0 = unfold reset_state in refl in
    record {
      malformed = counted book.malformed (malformed_line rom) refl (λ v b line l. malformed_next rom v b line l);
      refused = counted book.refused (refused_line rom) refl (λ v b line l. refused_next rom v b line l);
      captures = counted book.captures (start_line rom) refl (λ v b line l. such_next rom v b line l book.captures (omega arith) _ (starts_same b v.image (found v) (line_call rom v line)));
      ended = e;
      whole = o;
      touched = omega (arith, e, o, t);
      dropped = counted book.dropped (drop_line rom) refl (λ v b line l. such_next rom v b line l book.dropped (omega arith) _ (drops_same b v.image (found v) (line_call rom v line)));
      all = omega (arith, z, balance_all rom ls w new_book);
      ends = t;
    }
