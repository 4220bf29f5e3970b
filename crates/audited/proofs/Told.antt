-- What the events of a recording tell, from reset on, after any lines. Assumes nothing.
use mathlib.Core.Path.{◌≡◌, refl, sym, ap, subst, ◌∙◌}
use mathlib.Core.Bool.{true, false, not}
use mathlib.Core.List.{List, [], ◌∷◌, ◌++◌, append_assoc, append-nil, head-eq_of_cons-eq, tail-eq_of_cons-eq}
use Prim.Native.Nat.{ℕ, suc, ◌+◌, ◌%◌, ◌≤◌}
use native.Mathlib.Nat.{add-zero, zero-add}
use native.Mathlib.Omega.{arith}
use lib.Dec.{eqb}
use lib.ListN.{length, set, length-append}
use borrow.Author.Tests.{eqb-true, eqb-false, eq-eqb}
use Rattle.laws.proofs.Bools.{not_both, both_left, both_right}
use Rattle.laws.proofs.Pick.{pick_ind}
use Rattle.crc.specs.Crc.{crc_of}
use Rattle.timing.specs.Timing.{total_of}
use Rattle.lighting.specs.Taken.{setting_of}
use Rattle.lighting.specs.Light.{lit_of}
use Rattle.tiles.specs.Tiles.{area_of, Bytes}
use Rattle.capture.specs.Capture.{running}
use Rattle.plates.specs.Grey.{plate_of, plate_afresh}
use Rattle.history.specs.History.{Call, reset, read, write, tick, inspect, choose, place, fresh, leaves, answers, count_in, after, counted}
use Rattle.history.specs.History.{World as Found}
use Rattle.history.specs.Seen.{is_reset, start_seen, end_seen, held_through, lands_seen, landed_seen, AreaLeft, byte_in, bytes_in, Start, start_of, world_before, world_after, registers_of, afresh, counts_of}
use Rattle.history.proofs.Track.{Track, starts, next, told}
use Rattle.history.proofs.Follows.{Moment, at_reset_lem, moment_next, moment_after}
use Rattle.history.proofs.Goes.{counted_append, after_append}
use Rattle.history.proofs.Counts.{counts_next}
use Rattle.history.proofs.Observed.{starts_seen_lem, own_seen, begun_seen, only_start, ended_cycles, ended_picture, ended_plate}
use Rattle.lines.specs.declared.line.Frame.TheVariants.{Write}
use Rattle.lines.specs.Line.{frame_of}
use Rattle.session.specs.Answer.{number_said}
use Rattle.session.specs.Session.{World, step_of}
use Rattle.events.specs.Book.{noted, new_book, writes, first, last, row}
use Rattle.events.specs.Book as book
use Rattle.events.specs.Event.{Event, none, start, stop, resume, dropped, landed, whole, touched, found, call_of, stop_seen, resume_seen, drop_seen, place_of, write_seen, cycles_of, end_of, seen_of}
use Rattle.events.specs.Entry.{event_counted}
use Rattle.auditing.specs.Line.{line_counted, audit_of, audit_all}
use Rattle.audited.specs.Sessions.{calls_of, at_reset, left_by, next_event}
use Rattle.audited.specs.Told.{Begun, session_before, session_after, counts_since, OneBegun, Started, WholeTold, LandedTold, Landing, FirstLanding, LastLanding, landings, TouchedTold}
use Rattle.audited.proofs.Sessions.{line_found, audit_found, world_append, world_more, book_append, book_more, calls_append, calls_more, Cut, cut, write_is, lines_bytes}
use Rattle.audited.proofs.Summed.{row_counted}
use Rattle.audited.proofs.Writes.{Long, long_line, long_all, no_reset, none_landed, left_none, FoundLanding, First, first_landed, Last, some_last, all_lines, writes_counted, start_none, lands_write}

-- ---- the serial stays while a capture is held

serial_stays : (cs : List Call) (t : Track) (w : Found) → Moment t w → held_through w cs ≡ true → (after w cs).state.started ≡ w.state.started
unfolding held_through after start_seen
serial_stays [] t w m h = refl
serial_stays (k ∷ cs) t w m h =
    let on : w.state.held ≡ true = both_left w.state.held (held_through (leaves w k) cs) h in
    let r : held_through (leaves w k) cs ≡ true = both_right w.state.held (held_through (leaves w k) cs) h in
    serial_stays cs (next t k) (leaves w k) (moment_next t w m k) r
    ∙ (counts_next t w m k).started
    ∙ rw (no_reset w k (first_of (leaves w k) cs r), on)
  where
    first_of : (x : Found) (ds : List Call) → held_through x ds ≡ true → x.state.held ≡ true
    first_of x [] g = g
    first_of x (c ∷ ds) g = both_left x.state.held (held_through (leaves x c) ds) g

-- ---- a start that is seen, in a history

-- a start is a write
start_write : (ram store : List ℕ) (cs : List Call) (k : Call) → start_seen (after (fresh ram store) cs) k ≡ true
    → (image : List ℕ) × (a : ℕ) × (v : ℕ) × (k ≡ write image a v)
unfolding starts
start_write ram store cs k h = go k (starts_seen_lem ram store cs k ∙ h)
  where
    go : (j : Call) → starts (told ram store cs) j ≡ true → (image : List ℕ) × (a : ℕ) × (v : ℕ) × (j ≡ write image a v)
    go reset g = not_both g refl
    go (read rom a) g = not_both g refl
    go (write image a v) g = (image, a, v, refl)
    go (tick n) g = not_both g refl
    go inspect g = not_both g refl
    go (choose light level plain exposure) g = not_both g refl
    go (place file) g = not_both g refl

module _ {ram store : List ℕ} {calls : List Call} (s : Start ram store calls) where
  -- the session since it is held
  now_same : after (fresh ram store) calls ≡ after (world_after s) s.since
  unfolding after
  now_same = ap (after (fresh ram store)) s.whole ∙ after_append s.before (start_of s ∷ s.since) (fresh ram store)

  -- the serial is the start's
  same_serial : (after (fresh ram store) calls).state.started ≡ (world_after s).state.started
  same_serial =
      ap (λ (w : Found). w.state.started) now_same
      ∙ serial_stays s.since _ (world_after s) (moment_next _ _ (moment_after s.before _ _ (at_reset_lem ram store)) (start_of s)) s.through

  -- the registers taken at it
  taken_then : (world_after s).state.taken ≡ registers_of s
  unfolding start_seen held_through after
  taken_then =
      let first : Start ram store (s.before ++ (start_of s ∷ [])) =
      record {
        before = s.before;
        image = s.image;
        address = s.address;
        byte = s.byte;
        since = [];
        whole = refl;
        begins = s.begins;
        through = both_right (not (world_before s).state.held) (world_after s).state.held s.begins;
      } in
      sym (ap (λ (w : Found). w.state.taken) (after_append s.before (start_of s ∷ []) (fresh ram store))) ∙ (own_seen first).taken

  -- the cycles with those of one call more
  pub same_cycles : (k : Call) → cycles_of (after (fresh ram store) calls) k ≡ counts_of s k
  same_cycles k =
      let w = after (world_before s) (start_of s ∷ s.since) in
      let e : after (fresh ram store) calls ≡ w = ap (after (fresh ram store)) s.whole ∙ after_append s.before (start_of s ∷ s.since) (fresh ram store) in
      let one : counted w (k ∷ []) ≡ count_in (answers w k) = unfold counted in add-zero (count_in (answers w k)) in
      (λ i. (own_seen s).elapsed i + count_in (answers (e i) k))
      ∙ ap (λ (n : ℕ). counted (world_before s) (start_of s ∷ s.since) + n) (sym one)
      ∙ sym (counted_append (start_of s ∷ s.since) (k ∷ []) (world_before s))

-- ---- what is seen of a call

seen_start : (book image : List ℕ) (w : Found) (k : Call) → start_seen w k ≡ true
    → seen_of book image w k ≡ start (leaves w k).state.started (crc_of image) (noted book row) (leaves w k).state.taken
unfolding seen_of
seen_start book image w k h = rw h

seen_whole : (book image : List ℕ) (w : Found) (k : Call) → end_seen w k ≡ true → noted book writes ≡ 0
    → seen_of book image w k ≡ whole w.state.started (cycles_of w k) (crc_of (plate_of (leaves w k).ram))
unfolding seen_of end_of
seen_whole book image w k h z =
    let off : start_seen w k ≡ false = unfold start_seen end_seen in rw (both_left w.state.held _ h) in
    rw (off, h, eq-eqb (noted book writes) 0 z)

-- what is seen has what each case has
seen_cases : (book image : List ℕ) (w : Found) (k : Call) (P : Event → Type 0)
    → (start_seen w k ≡ true → P (start (leaves w k).state.started (crc_of image) (noted book row) (leaves w k).state.taken))
    → (end_seen w k ≡ true → P (end_of book w.state.started (cycles_of w k) (crc_of (plate_of (leaves w k).ram))))
    → (drop_seen w k ≡ true → P (dropped w.state.started (cycles_of w k)))
    → (write_seen w k ≡ true → P (landed w.state.started (place_of w k) (byte_in k (place_of w k))))
    → (stop_seen w k ≡ true → P (stop w.state.started (cycles_of w k)))
    → (resume_seen w k ≡ true → P (resume w.state.started (cycles_of w k)))
    → P none → P (seen_of book image w k)
unfolding seen_of
seen_cases book image w k P a b c d e f n =
    pick_ind P (start_seen w k) a
    (λ _.
    pick_ind P (end_seen w k) b
    (λ _. pick_ind P (drop_seen w k) c (λ _. pick_ind P (write_seen w k) d (λ _. pick_ind P (stop_seen w k) e (λ _. pick_ind P (resume_seen w k) f (λ _. n))))))

-- what each event tells of the call of which it is seen
module _ (book image : List ℕ) (w : Found) (k : Call) where
  record IsEnd (s c p : ℕ) : Type 0 where
    pub over : end_seen w k ≡ true
    pub serial : w.state.started ≡ s
    pub cycles : cycles_of w k ≡ c
    pub plate : crc_of (plate_of (leaves w k).ram) ≡ p

  record IsTouched (n f t : ℕ) : Type 0 where
    pub some : noted book writes ≡ 0 → ⊥
    pub counts : noted book writes ≡ n
    pub firstly : noted book first ≡ f
    pub lastly : noted book last ≡ t

  record IsMark (s c : ℕ) : Type 0 where
    pub held : w.state.held ≡ true
    pub serial : w.state.started ≡ s
    pub cycles : cycles_of w k ≡ c

  record IsLanded (s a v : ℕ) : Type 0 where
    pub held : w.state.held ≡ true
    pub lands : lands_seen w k (place_of w k) ≡ true
    pub serial : w.state.started ≡ s
    pub place : place_of w k ≡ a
    pub byte : byte_in k (place_of w k) ≡ v

  abbrev Fact : Event → Type 0
  Fact none = image ≡ image
  Fact (start s i r g) = start_seen w k ≡ true
  Fact (stop s c) = IsMark s c
  Fact (resume s c) = IsMark s c
  Fact (dropped s c) = IsMark s c
  Fact (landed s a v) = IsLanded s a v
  Fact (whole s c p) = IsEnd s c p × (noted book writes ≡ 0)
  Fact (touched s c p n f t) = IsEnd s c p × IsTouched n f t

  mark : w.state.held ≡ true → IsMark w.state.started (cycles_of w k)
  mark h = record { held = h; serial = refl; cycles = refl }

  fact_end : end_seen w k ≡ true → Fact (end_of book w.state.started (cycles_of w k) (crc_of (plate_of (leaves w k).ram)))
  unfolding end_of
  fact_end h =
      let e : IsEnd w.state.started (cycles_of w k) (crc_of (plate_of (leaves w k).ram)) = record { over = h; serial = refl; cycles = refl; plate = refl } in
      pick_ind Fact (eqb (noted book writes) 0)
      (λ z. (e, eqb-true (noted book writes) 0 z))
      (λ z. (e, record { some = eqb-false (noted book writes) 0 z; counts = refl; firstly = refl; lastly = refl }))

  facts : Fact (seen_of book image w k)
  unfolding drop_seen write_seen stop_seen resume_seen
  facts =
      seen_cases book image w k Fact
      (λ h. h)
      fact_end
      (λ h. mark (both_left w.state.held (is_reset k) h))
      (λ h.
      record {
        held = both_left w.state.held (lands_seen w k (place_of w k)) h;
        lands = both_right w.state.held (lands_seen w k (place_of w k)) h;
        serial = refl;
        place = refl;
        byte = refl;
      })
      (λ h. mark (both_left w.state.held _ (both_left (running w.state) _ h)))
      (λ h. mark (both_left w.state.held _ h))
      refl

  fact : (e : Event) → seen_of book image w k ≡ e → Fact e
  fact e h = subst Fact h facts

-- ---- lists that split in one way

split_same : (xs ys : List (List ℕ)) (a b : List ℕ) (us vs : List (List ℕ)) → length xs ≡ length ys → xs ++ (a ∷ us) ≡ ys ++ (b ∷ vs)
    → (xs ≡ ys) × (a ≡ b) × (us ≡ vs)
split_same [] [] a b us vs l e = (refl, head-eq_of_cons-eq e, tail-eq_of_cons-eq e)
split_same [] (y ∷ ys) a b us vs l e = absurd (omega arith)
split_same (x ∷ xs) [] a b us vs l e = absurd (omega arith)
split_same (x ∷ xs) (y ∷ ys) a b us vs l e =
    let f : x ≡ y = head-eq_of_cons-eq e in
    let r = split_same xs ys a b us vs (omega arith) (tail-eq_of_cons-eq e) in
    (λ i. f i ∷ r.0 i, r.1, r.2)

calls_length : (rom : List ℕ) (xs : List (List ℕ)) (w : World) → length (calls_of rom w xs) ≡ length xs
unfolding calls_of
calls_length rom [] w = refl
calls_length rom (line ∷ xs) w = ap suc (calls_length rom xs (step_of rom w line).world)

-- ---- a session from reset

module _ (rom ram store image : List ℕ) where
  abbrev w₀ : World
  w₀ = at_reset ram store image

  found_by : (lines : List (List ℕ)) → found (left_by rom w₀ lines).world ≡ after (fresh ram store) (calls_of rom w₀ lines)
  found_by lines = audit_found rom w₀ new_book lines

  module _ (lines : List (List ℕ)) where
    abbrev cs : List Call
    cs = calls_of rom w₀ lines

    -- a start's line is a start of the history
    module _ {serial : ℕ} (s : Begun rom w₀ lines serial) where
      abbrev wb : World
      wb = (left_by rom w₀ s.before).world

      abbrev kb : Call
      kb = call_of rom wb.image (frame_of s.line)

      begins_here : start_seen (after (fresh ram store) (calls_of rom w₀ s.before)) kb ≡ true
      begins_here =
          ap (λ (x : Found). start_seen x kb) (sym (found_by s.before))
          ∙ fact (left_by rom w₀ s.before).book wb.image (found wb) kb (start serial s.checksum s.row s.registers) s.begins

      since_begun : found (session_after s) ≡ leaves (after (fresh ram store) (calls_of rom w₀ s.before)) kb
      since_begun =
          ap found (world_more rom w₀ new_book s.before s.line)
          ∙ line_found rom wb s.line
          ∙ ap (λ (x : Found). leaves x kb) (found_by s.before)

      calls_split : cs ≡ calls_of rom w₀ s.before ++ (kb ∷ calls_of rom (session_after s) s.since)
      unfolding calls_of
      calls_split =
          ap (calls_of rom w₀) s.whole
          ∙ calls_append rom s.before w₀ new_book (s.line ∷ s.since)
          ∙ ap (λ (w : World). calls_of rom w₀ s.before ++ (kb ∷ calls_of rom w s.since)) (sym (world_more rom w₀ new_book s.before s.line))

      to_start : Start ram store cs
      to_start =
          let is = start_write ram store (calls_of rom w₀ s.before) kb begins_here in
          record {
            before = calls_of rom w₀ s.before;
            image = is.0;
            address = is.1;
            byte = is.2;
            since = calls_of rom (session_after s) s.since;
            whole = calls_split ∙ ap (λ (j : Call). calls_of rom w₀ s.before ++ (j ∷ calls_of rom (session_after s) s.since)) is.3;
            begins = ap (start_seen (after (fresh ram store) (calls_of rom w₀ s.before))) (sym is.3) ∙ begins_here;
            through =
                ap (λ (j : Call). held_through (leaves (after (fresh ram store) (calls_of rom w₀ s.before)) j) (calls_of rom (session_after s) s.since)) (sym is.3)
                ∙ ap (λ (x : Found). held_through x (calls_of rom (session_after s) s.since)) (sym since_begun)
                ∙ s.through;
          }

    -- two are one
    pub one_begun : {serial n : ℕ} (s : Begun rom w₀ lines serial) (other : Begun rom w₀ lines n) → OneBegun s other
    unfolding to_start
    one_begun s other =
        let o : calls_of rom w₀ other.before ≡ calls_of rom w₀ s.before = (only_start (to_start s) (to_start other)).before in
        let l : length other.before ≡ length s.before =
        sym (calls_length rom other.before w₀) ∙ ap length o ∙ calls_length rom s.before w₀ in
        let r = split_same other.before s.before other.line s.line other.since s.since l (sym other.whole ∙ s.whole) in
        record { before = r.0; line = r.1; since = r.2 }

    module _ (s : Start ram store cs) where
      abbrev c : Cut rom w₀ new_book lines s.before (start_of s) s.since
      c = cut rom lines w₀ new_book s.before (start_of s) s.since s.whole

      is_write : (frame_of c.line ≡ Write s.address s.byte) × ((left_by rom w₀ c.before).world.image ≡ s.image)
      is_write = write_is rom _ (frame_of c.line) s.image s.address s.byte c.here

      before_same : found (left_by rom w₀ c.before).world ≡ world_before s
      before_same = found_by c.before ∙ ap (after (fresh ram store)) c.first

      after_same : found (left_by rom w₀ (c.before ++ (c.line ∷ []))).world ≡ world_after s
      after_same =
          ap found (world_more rom w₀ new_book c.before c.line)
          ∙ line_found rom (left_by rom w₀ c.before).world c.line
          ∙ (λ i. leaves (before_same i) (c.here i))

      since_same : calls_of rom (left_by rom w₀ (c.before ++ (c.line ∷ []))).world c.since ≡ s.since
      since_same = ap (λ (w : World). calls_of rom w c.since) (world_more rom w₀ new_book c.before c.line) ∙ c.rest

      -- the start's line
      pub the_begun : Begun rom w₀ lines (left_by rom w₀ lines).world.state.started
      the_begun =
          let w = (left_by rom w₀ c.before).world in
          let b = (left_by rom w₀ c.before).book in
          let k = call_of rom w.image (frame_of c.line) in
          let then : leaves (found w) k ≡ world_after s = (λ i. leaves (before_same i) (c.here i)) in
          let same : (leaves (found w) k).state.started ≡ (left_by rom w₀ lines).world.state.started =
          ap (λ (x : Found). x.state.started) then ∙ sym (same_serial s) ∙ sym (ap (λ (x : Found). x.state.started) (found_by lines)) in
          record {
            before = c.before;
            line = c.line;
            since = c.since;
            checksum = crc_of w.image;
            row = noted b row;
            registers = (leaves (found w) k).state.taken;
            whole = c.whole;
            begins =
                seen_start b w.image (found w) k ((λ i. start_seen (before_same i) (c.here i)) ∙ s.begins)
                ∙ ap (λ (n : ℕ). start n (crc_of w.image) (noted b row) (leaves (found w) k).state.taken) same;
            through = (λ i. held_through (after_same i) (since_same i)) ∙ s.through;
          }

      registers_then : the_begun.registers ≡ registers_of s
      unfolding the_begun
      registers_then = ap (λ (x : Found). x.state.taken) (λ i. leaves (before_same i) (c.here i)) ∙ taken_then s

      -- none landed in the area, seen of the calls and of the lines
      pub left_since : AreaLeft (world_after s) s.since → AreaLeft (found (session_after the_begun)) (calls_of rom (session_after the_begun) the_begun.since)
      unfolding the_begun
      left_since left p inside = (λ i. landed_seen p (after_same i) (since_same i)) ∙ left p inside

      started_with : (more : List (List ℕ)) (cycles : ℕ) → cycles ≡ counts_since the_begun more → Started rom w₀ lines more (left_by rom w₀ lines).world.state.started cycles
      unfolding the_begun
      started_with more cycles e = record {
        begun = the_begun;
        one = λ n other. one_begun the_begun other;
        address = s.address;
        byte = s.byte;
        write = is_write.0;
        checksum = refl;
        row = λ most. row_counted rom c.before w₀ new_book refl (omega (arith, most));
        registers = registers_then ∙ ap (λ (x : Found). set x.state.registers 0 (s.byte % 8)) (sym before_same);
        counts = e;
      }

      -- no line more
      the_held : Started rom w₀ lines [] (left_by rom w₀ lines).world.state.started (left_by rom w₀ lines).world.state.elapsed.0
      unfolding the_begun calls_of
      the_held =
          let v = (step_of rom (left_by rom w₀ c.before).world c.line).world in
          let x : calls_of rom v (c.since ++ []) ≡ s.since = ap (calls_of rom v) (append-nil c.since) ∙ c.rest in
          started_with [] _ (ap (λ (y : Found). y.state.elapsed.0) (found_by lines) ∙ (own_seen s).elapsed ∙ sym (λ i. counted (before_same i) (c.here i ∷ x i)))

      -- one line more
      module _ (line : List ℕ) where
        abbrev k : Call
        k = call_of rom (left_by rom w₀ lines).world.image (frame_of line)

        -- the session that the lines since the start leave
        then_same : (audit_all rom (step_of rom (left_by rom w₀ c.before).world c.line).world (audit_of rom (left_by rom w₀ c.before).world (left_by rom w₀ c.before).book c.line).book c.since).world
            ≡ (left_by rom w₀ lines).world
        unfolding audit_all audit_of
        then_same = sym (ap (λ (ls : List (List ℕ)). (left_by rom w₀ ls).world) c.whole ∙ world_append rom c.before w₀ new_book (c.line ∷ c.since))

        same_counts : counts_since the_begun (line ∷ []) ≡ counts_of s k
        unfolding the_begun calls_of
        same_counts =
            let v = (step_of rom (left_by rom w₀ c.before).world c.line).world in
            let b = (audit_of rom (left_by rom w₀ c.before).world (left_by rom w₀ c.before).book c.line).book in
            let x : calls_of rom v (c.since ++ (line ∷ [])) ≡ s.since ++ (k ∷ []) =
            calls_more rom v b c.since line ∙ (λ i. c.rest i ++ (call_of rom (then_same i).image (frame_of line) ∷ [])) in
            (λ i. counted (before_same i) (c.here i ∷ x i))

        cycles_then : cycles_of (found (left_by rom w₀ lines).world) k ≡ counts_since the_begun (line ∷ [])
        cycles_then = ap (λ (x : Found). cycles_of x k) (found_by lines) ∙ same_cycles s k ∙ sym same_counts

        -- what an event with the serial and the cycles so far tells
        the_started : Started rom w₀ lines (line ∷ []) (left_by rom w₀ lines).world.state.started (cycles_of (found (left_by rom w₀ lines).world) k)
        the_started = started_with (line ∷ []) _ cycles_then

        -- the line after which it ended
        module _ (h : end_seen (found (left_by rom w₀ lines).world) k ≡ true) where
          over_then : end_seen (after (fresh ram store) cs) k ≡ true
          over_then = ap (λ (x : Found). end_seen x k) (sym (found_by lines)) ∙ h

          all_calls : calls_of rom w₀ (lines ++ (line ∷ [])) ≡ cs ++ (k ∷ [])
          all_calls = calls_more rom w₀ new_book lines line

          ram_then : (left_by rom w₀ (lines ++ (line ∷ []))).world.ram ≡ (after (fresh ram store) (cs ++ (k ∷ []))).ram
          ram_then = ap (λ (x : Found). x.ram) (found_by (lines ++ (line ∷ [])) ∙ ap (after (fresh ram store)) all_calls)

          ram_now : (leaves (found (left_by rom w₀ lines).world) k).ram ≡ (left_by rom w₀ (lines ++ (line ∷ []))).world.ram
          ram_now = sym (ap (λ (w : World). w.ram) (world_more rom w₀ new_book lines line) ∙ ap (λ (x : Found). x.ram) (line_found rom (left_by rom w₀ lines).world line))

          total_then : cycles_of (found (left_by rom w₀ lines).world) k ≡ total_of the_begun.registers
          total_then = cycles_then ∙ same_counts ∙ ended_cycles s k over_then ∙ ap total_of (sym registers_then)

          bytes_then : bytes_in (cs ++ (k ∷ [])) ≡ true
          bytes_then = ap bytes_in (sym all_calls) ∙ lines_bytes rom (lines ++ (line ∷ [])) w₀

          book_then : (audit_all rom (session_after the_begun) (left_by rom w₀ (c.before ++ (c.line ∷ []))).book c.since).book ≡ (left_by rom w₀ lines).book
          unfolding the_begun
          book_then =
              sym
              (ap (λ (ls : List (List ℕ)). (left_by rom w₀ ls).book) (c.whole ∙ sym (append_assoc c.before (c.line ∷ []) c.since))
              ∙ book_append rom (c.before ++ (c.line ∷ [])) w₀ new_book c.since)

          -- the book has no writes after the start's line
          begun_none : noted (left_by rom w₀ (c.before ++ (c.line ∷ []))).book writes ≡ 0
          unfolding the_begun audit_of
          begun_none =
              let w = (left_by rom w₀ c.before).world in
              let b = (left_by rom w₀ c.before).book in
              let counted = line_counted b (frame_of c.line) (number_said (step_of rom w c.line).text) in
              ap (λ (x : List ℕ). noted x writes) (book_more rom w₀ new_book c.before c.line)
              ∙ ap (λ (x : Event). noted (event_counted counted x) writes) the_begun.begins
              ∙ start_none counted _ _ _ _ (long_line b (frame_of c.line) (number_said (step_of rom w c.line).text) (long_all rom c.before w₀ new_book refl))

          long_then : Long (left_by rom w₀ (c.before ++ (c.line ∷ []))).book
          long_then = long_all rom (c.before ++ (c.line ∷ [])) w₀ new_book refl

          module _ (some : noted (left_by rom w₀ lines).book writes ≡ 0 → ⊥) where
            abbrev begun_book : List ℕ
            begun_book = (left_by rom w₀ (c.before ++ (c.line ∷ []))).book

            -- the session after the start's line and some lines more
            more_then : (ls : List (List ℕ)) → (audit_all rom (session_after the_begun) begun_book ls).world ≡ (left_by rom w₀ (c.before ++ (c.line ∷ ls))).world
            unfolding the_begun
            more_then ls =
                sym
                (ap (λ (xs : List (List ℕ)). (left_by rom w₀ xs).world) (sym (append_assoc c.before (c.line ∷ []) ls))
                ∙ world_append rom (c.before ++ (c.line ∷ [])) w₀ new_book ls)

            some_then : noted (audit_all rom (session_after the_begun) begun_book c.since).book writes ≡ 0 → ⊥
            some_then z = some (ap (λ (x : List ℕ). noted x writes) (sym book_then) ∙ z)

            of_landing : FoundLanding rom (session_after the_begun) begun_book c.since → Landing rom w₀ lines (left_by rom w₀ lines).world.state.started the_begun
            unfolding the_begun
            of_landing f =
                let e = more_then f.earlier in
                record {
                  earlier = f.earlier;
                  line = f.line;
                  later = f.later;
                  among = f.among;
                  place = f.at;
                  inside = f.inside;
                  lands = sym (λ i. lands_seen (found (e i)) (call_of rom (e i).image (frame_of f.line)) f.at) ∙ f.lands;
                }

            the_first : First rom (session_after the_begun) begun_book c.since (noted (audit_all rom (session_after the_begun) begun_book c.since).book first)
            unfolding the_begun
            the_first = first_landed rom c.since (session_after the_begun) begun_book long_then the_begun.through begun_none some_then

            the_final : Last rom (session_after the_begun) begun_book c.since (noted (audit_all rom (session_after the_begun) begun_book c.since).book last)
            unfolding the_begun
            the_final = some_last rom c.since (session_after the_begun) begun_book long_then the_begun.through begun_none some_then

            -- how many lines there are
            module _ (most : length lines ≤ 0xFFFFFFFFFFFFFFFF) where
              all_length : length lines ≡ length c.before + 1 + length c.since
              all_length = ap length c.whole ∙ length-append c.before (c.line ∷ c.since) ∙ omega arith

              begun_lines : noted begun_book book.lines ≡ length c.before + 1
              begun_lines =
                  let n : length (c.before ++ (c.line ∷ [])) ≡ length c.before + 1 = length-append c.before (c.line ∷ []) in
                  all_lines rom (c.before ++ (c.line ∷ [])) w₀ new_book refl (omega (arith, n, all_length)) ∙ omega (arith, n)

              number_then : (f : FoundLanding rom (session_after the_begun) begun_book c.since) (n : ℕ)
                  → (noted begun_book book.lines + length c.since ≤ 0xFFFFFFFFFFFFFFFF → n ≡ noted begun_book book.lines + length f.earlier + 1)
                  → length (c.before ++ (c.line ∷ (f.earlier ++ (f.line ∷ [])))) ≡ n
              number_then f n e =
                  let g = e (omega (arith, begun_lines, all_length)) in
                  let a = length-append c.before (c.line ∷ (f.earlier ++ (f.line ∷ []))) in
                  let d = length-append f.earlier (f.line ∷ []) in
                  omega (arith, g, a, d, begun_lines)

              count_then : noted (left_by rom w₀ lines).book writes ≡ landings rom (session_after the_begun) the_begun.since
              unfolding the_begun
              count_then =
                  ap (λ (x : List ℕ). noted x writes) (sym book_then)
                  ∙ writes_counted rom c.since (session_after the_begun) begun_book long_then the_begun.through (omega (arith, begun_none, all_length))
                  ∙ ap (λ (n : ℕ). n + landings rom (session_after the_begun) c.since) begun_none
                  ∙ zero-add (landings rom (session_after the_begun) c.since)

              first_then : FirstLanding rom w₀ lines (left_by rom w₀ lines).world.state.started the_begun (noted (left_by rom w₀ lines).book first)
              unfolding the_begun of_landing
              first_then = record {
                landing = of_landing the_first.landing;
                left = the_first.left;
                number = number_then the_first.landing _ the_first.number ∙ ap (λ (x : List ℕ). noted x first) book_then;
              }

              last_then : LastLanding rom w₀ lines (left_by rom w₀ lines).world.state.started the_begun (noted (left_by rom w₀ lines).book last)
              unfolding the_begun of_landing
              last_then =
                  let f = the_final.landing in
                  record {
                    landing = of_landing f;
                    left =
                        subst (λ (w : World). AreaLeft (found w) (calls_of rom w f.later)) (more_then (f.earlier ++ (f.line ∷ []))) the_final.left;
                    number = number_then f _ the_final.number ∙ ap (λ (x : List ℕ). noted x last) book_then;
                  }

            the_touched : TouchedTold rom w₀ lines line (left_by rom w₀ lines).world.state.started (cycles_of (found (left_by rom w₀ lines).world) k)
                (crc_of (plate_of (leaves (found (left_by rom w₀ lines).world) k).ram)) (noted (left_by rom w₀ lines).book writes) (noted (left_by rom w₀ lines).book first) (noted (left_by rom w₀ lines).book last)
            unfolding the_started started_with
            the_touched = record {
              from = the_started;
              landing = of_landing the_first.landing;
              count = count_then;
              firstly = first_then;
              lastly = last_then;
              total = total_then;
              of_area = ap (λ (r : List ℕ). crc_of (plate_of r)) ram_now;
            }

          -- none landed in the area
          none_then : AreaLeft (found (session_after the_begun)) (calls_of rom (session_after the_begun) the_begun.since) → noted (left_by rom w₀ lines).book writes ≡ 0
          unfolding the_begun
          none_then left =
              ap (λ (x : List ℕ). noted x writes) (sym book_then)
              ∙ left_none rom c.since (session_after the_begun) (left_by rom w₀ (c.before ++ (c.line ∷ []))).book long_then the_begun.through left begun_none

          module _ (bytes : Bytes ram) (z : noted (left_by rom w₀ lines).book writes ≡ 0) where
            alone_then : AreaLeft (found (session_after the_begun)) (calls_of rom (session_after the_begun) the_begun.since)
            unfolding the_begun
            alone_then =
                (none_landed rom c.since (session_after the_begun) (left_by rom w₀ (c.before ++ (c.line ∷ []))).book
                long_then the_begun.through (ap (λ (b : List ℕ). noted b writes) book_then ∙ z)).1

            left_then : AreaLeft (world_after s) s.since
            unfolding the_begun
            left_then p here = sym (λ i. landed_seen p (after_same i) (since_same i)) ∙ alone_then p here

            the_whole : WholeTold rom w₀ lines line (left_by rom w₀ lines).world.state.started (cycles_of (found (left_by rom w₀ lines).world) k)
                (crc_of (plate_of (leaves (found (left_by rom w₀ lines).world) k).ram))
            unfolding the_started started_with
            the_whole =
                let lent : s.image ≡ (session_before the_begun).image = unfold the_begun in sym is_write.1 in
                let regs : registers_of s ≡ the_begun.registers = sym registers_then in
                record {
                  from = the_started;
                  alone = alone_then;
                  total = total_then;
                  picture = ap area_of ram_then ∙ ended_picture s k over_then bytes bytes_then left_then ∙ (λ i. afresh (lent i) (regs i));
                  of_area = ap (λ (r : List ℕ). crc_of (plate_of r)) ram_now;
                  of_picture =
                      ap (λ (r : List ℕ). crc_of (plate_of r)) (ram_now ∙ ram_then)
                      ∙ ap crc_of (ended_plate s k over_then bytes bytes_then left_then ∙ (λ i. plate_afresh (lit_of (lent i) (setting_of (regs i))) (regs i)));
                }

-- held before an end
end_held : (w : Found) (k : Call) → end_seen w k ≡ true → w.state.held ≡ true
unfolding end_seen
end_held w k h = both_left w.state.held _ h

module _ (rom ram store image : List ℕ) (lines : List (List ℕ)) (line : List ℕ) where
  abbrev here : World
  here = (left_by rom (at_reset ram store image) lines).world

  abbrev call : Call
  call = call_of rom here.image (frame_of line)

  the_start : here.state.held ≡ true → Start ram store (calls_of rom (at_reset ram store image) lines)
  the_start on =
      begun_seen ram store (calls_of rom (at_reset ram store image) lines)
      (sym (ap (λ (x : Found). x.state.held) (audit_found rom (at_reset ram store image) new_book lines)) ∙ on)

  -- Whole: from reset, with any RAM whose bytes are bytes, any frame store, image and ROM, and a new book, after any lines: if the next line's
  -- event is `whole`, the plate is that of its own start, of the image lent then and of the registers then
  pub whole_told : Bytes ram → (serial cycles plate : ℕ) → next_event rom (at_reset ram store image) lines line ≡ whole serial cycles plate
      → WholeTold rom (at_reset ram store image) lines line serial cycles plate
  whole_told bytes serial cycles plate e =
      let f = fact (left_by rom (at_reset ram store image) lines).book here.image (found here) call (whole serial cycles plate) e in
      let is = f.0 in
      let s = the_start (end_held (found here) call is.over) in
      subst (λ (n : ℕ). WholeTold rom (at_reset ram store image) lines line n cycles plate) is.serial
      (subst (λ (n : ℕ). WholeTold rom (at_reset ram store image) lines line here.state.started n plate) is.cycles
      (subst (λ (n : ℕ). WholeTold rom (at_reset ram store image) lines line here.state.started (cycles_of (found here) call) n) is.plate
      (the_whole rom ram store image lines s line is.over bytes f.1)))

  -- Touched: and if it is `touched`, some line since its start landed in the area, the first and the last that did with these numbers
  pub touched_told : (serial cycles plate writes first last : ℕ) → next_event rom (at_reset ram store image) lines line ≡ touched serial cycles plate writes first last
      → TouchedTold rom (at_reset ram store image) lines line serial cycles plate writes first last
  touched_told serial cycles plate writes first last e =
      let w₀ = at_reset ram store image in
      let g = fact (left_by rom w₀ lines).book here.image (found here) call (touched serial cycles plate writes first last) e in
      let is = g.0 in
      let how = g.1 in
      let s = the_start (end_held (found here) call is.over) in
      let f = noted (left_by rom w₀ lines).book book.first in
      let t = noted (left_by rom w₀ lines).book book.last in
      let v = noted (left_by rom w₀ lines).book book.writes in
      subst (λ (n : ℕ). TouchedTold rom w₀ lines line serial cycles plate writes first n) how.lastly
      (subst (λ (n : ℕ). TouchedTold rom w₀ lines line serial cycles plate writes n t) how.firstly
      (subst (λ (n : ℕ). TouchedTold rom w₀ lines line serial cycles plate n f t) how.counts
      (subst (λ (n : ℕ). TouchedTold rom w₀ lines line n cycles plate v f t) is.serial
      (subst (λ (n : ℕ). TouchedTold rom w₀ lines line here.state.started n plate v f t) is.cycles
      (subst (λ (n : ℕ). TouchedTold rom w₀ lines line here.state.started (cycles_of (found here) call) n v f t) is.plate
      (the_touched rom ram store image lines s line is.over how.some))))))

  -- Whole said: an end since whose start no line landed in the area is said to be whole
  pub whole_said : (s : Begun rom (at_reset ram store image) lines here.state.started) → AreaLeft (found (session_after s)) (calls_of rom (session_after s) s.since)
      → end_seen (found here) call ≡ true
      → next_event rom (at_reset ram store image) lines line ≡ whole here.state.started (cycles_of (found here) call) (crc_of (plate_of (leaves (found here) call).ram))
  whole_said s left h =
      let w₀ = at_reset ram store image in
      let t = the_start (end_held (found here) call h) in
      let g = the_begun rom ram store image lines t in
      let o = one_begun rom ram store image lines s g in
      let l : AreaLeft (found (session_after g)) (calls_of rom (session_after g) g.since) =
      λ p inside.
      (λ i. landed_seen p (found (left_by rom w₀ (o.before i ++ (o.line i ∷ []))).world) (calls_of rom (left_by rom w₀ (o.before i ++ (o.line i ∷ []))).world (o.since i)))
      ∙ left p inside in
      seen_whole (left_by rom w₀ lines).book here.image (found here) call h (none_then rom ram store image lines t line h l)

  mark_told : (serial cycles : ℕ) → IsMark (left_by rom (at_reset ram store image) lines).book here.image (found here) call serial cycles
      → Started rom (at_reset ram store image) lines (line ∷ []) serial cycles
  mark_told serial cycles is =
      let s = the_start is.held in
      subst (λ (n : ℕ). Started rom (at_reset ram store image) lines (line ∷ []) n cycles) is.serial
      (subst (λ (n : ℕ). Started rom (at_reset ram store image) lines (line ∷ []) here.state.started n) is.cycles
      (the_started rom ram store image lines s line))

  -- Stopped, resumed, dropped: the serial is that of one start, and the cycles are the counts since, added up
  pub stop_told : (serial cycles : ℕ) → next_event rom (at_reset ram store image) lines line ≡ stop serial cycles
      → Started rom (at_reset ram store image) lines (line ∷ []) serial cycles
  stop_told serial cycles e = mark_told serial cycles (fact (left_by rom (at_reset ram store image) lines).book here.image (found here) call (stop serial cycles) e)

  pub resume_told : (serial cycles : ℕ) → next_event rom (at_reset ram store image) lines line ≡ resume serial cycles
      → Started rom (at_reset ram store image) lines (line ∷ []) serial cycles
  resume_told serial cycles e = mark_told serial cycles (fact (left_by rom (at_reset ram store image) lines).book here.image (found here) call (resume serial cycles) e)

  pub dropped_told : (serial cycles : ℕ) → next_event rom (at_reset ram store image) lines line ≡ dropped serial cycles
      → Started rom (at_reset ram store image) lines (line ∷ []) serial cycles
  dropped_told serial cycles e = mark_told serial cycles (fact (left_by rom (at_reset ram store image) lines).book here.image (found here) call (dropped serial cycles) e)

  -- Landed: the line writes that byte, which landed in that place, and the capture held then has that serial
  pub landed_told : (serial spot byte : ℕ) → next_event rom (at_reset ram store image) lines line ≡ landed serial spot byte
      → LandedTold rom (at_reset ram store image) lines line serial spot byte
  landed_told serial spot byte e =
      let w₀ = at_reset ram store image in
      let is = fact (left_by rom w₀ lines).book here.image (found here) call (landed serial spot byte) e in
      let at = place_of (found here) call in
      let s = the_start is.held in
      let g = the_begun rom ram store image lines s in
      let t = lands_write rom here.image (found here) (frame_of line) at is.lands in
      subst (λ (n : ℕ). LandedTold rom w₀ lines line n spot byte) is.serial
      (record {
        begun = g;
        one = λ n other. one_begun rom ram store image lines g other;
        address = t.0;
        write = t.1 ∙ ap (Write t.0) is.byte;
        lands = ap (lands_seen (found here) call) (sym is.place) ∙ is.lands;
      })

-- Held: of a capture that is held after lines, as the end of an audit says it
pub held_told : (rom ram store image : List ℕ) (lines : List (List ℕ)) → (left_by rom (at_reset ram store image) lines).world.state.held ≡ true
    → Started rom (at_reset ram store image) lines [] (left_by rom (at_reset ram store image) lines).world.state.started (left_by rom (at_reset ram store image) lines).world.state.elapsed.0
held_told rom ram store image lines on = the_held rom ram store image lines (the_start rom ram store image lines [] on)
