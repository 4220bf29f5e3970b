-- What holds while a piece is read: laws of `fed`, turn by turn. Assumes nothing.
use mathlib.Core.Path.{◌≡◌, refl, sym, ap, subst, ◌∙◌}
use mathlib.Core.Bool.{Bool, true, false, ◌&&◌}
use mathlib.Core.List.{List, [], ◌∷◌, ◌++◌, append_assoc, append-nil}
use Prim.Native.Nat.{ℕ, zero, suc, ◌+◌, ◌-◌, ◌<◌, ◌≤◌, min}
use native.Mathlib.Nat.{zero-add, add-zero}
use native.Mathlib.Numerals.{add-one}
use native.Mathlib.Omega.{arith}
use lib.Dec.{ltb, leb}
use lib.ListN.{length, get_or, take, drop, replicate, length-append, length-take, length-drop, drop_of_length-le}
use lib.Seq.{drop-cons, drop-drop, take_all, take-suc, take-append-le, take-append-add, get_or-drop, length-take-le}
use borrow.Author.Tests.{eq-eqb, ne_eqb, lt-ltb, le-ltb, le-leb, ltb-true, leb-true}
use Rattle.laws.proofs.Bools.{not_both, both_left, both_right}
use Rattle.laws.proofs.Order.{split}
use Rattle.script.specs.declared.text.Reader.{Reader}
use Rattle.lines.specs.Hex.{placed}
use Rattle.session.specs.Session.{World, Step, step, step_of}
use Rattle.session.specs.Aside.{Printed}
use Rattle.session.proofs.Steps.{drop_zeros}
use Rattle.short.specs.Aside.{Ends}
use Rattle.script.specs.Pieces.{Going, Reading, Feeding, reading, feeding, line_ended, line_kept, byte_kept, byte_read, fed, reader_of, held_by, opened, feed_means, last_line, finish_means}
use Rattle.lines.proofs.Placed.{placed_none, placed_next, take_placed}

pub reading_alike : (w w' : World) (line : List ℕ) (t t' : List ℕ) (used : ℕ) → w ≡ w' → t ≡ t' → reading w line t used ≡ reading w' line t' used
reading_alike w w' line t t' used p q = cc

module _ (rom : List ℕ) (size : ℕ) (m : Reading) (b : ℕ) (rest : List ℕ) where
  pub fed_line : b ≡ 0x0A → length m.text + 11 ≤ size → fed rom size m (b ∷ rest) ≡ fed rom size (line_ended rom m) rest
  unfolding fed byte_read
  fed_line e h = simp (eq-eqb b 0x0A e, le-ltb size (length m.text + 11) h)

  pub fed_byte : (b ≡ 0x0A → ⊥) → fed rom size m (b ∷ rest) ≡ fed rom size (byte_kept m b) rest
  unfolding fed byte_read
  fed_byte e = simp (ne_eqb b 0x0A e)

  pub fed_stops : b ≡ 0x0A → size < length m.text + 11 → fed rom size m (b ∷ rest) ≡ m
  unfolding fed
  fed_stops e h = simp (eq-eqb b 0x0A e, lt-ltb size (length m.text + 11) h)

pub fed_none : (rom : List ℕ) (size : ℕ) (m : Reading) → fed rom size m [] ≡ m
unfolding fed
fed_none rom size m = refl

-- of a line the first 261 bytes
pub kept_more : (p : List ℕ) (b : ℕ) → line_kept (take 261 p) b ≡ take 261 (p ++ (b ∷ []))
unfolding line_kept
kept_more p b =
    split (length p) 261
    (λ l. let e : take 261 p ≡ p = take_all 261 p (omega arith) in
    rw e (simp (lt-ltb (length p) 261 l) (sym (take_all 261 (p ++ (b ∷ [])) (omega (arith, length-append p (b ∷ [])))))))
    (λ l. simp (length-take-le 261 p l) (sym (take-append-le 261 p (b ∷ []) l)))

-- no more than 261 bytes are held
pub few_kept : (line : List ℕ) (b : ℕ) → length line ≤ 261 → length (line_kept line b) ≤ 261
unfolding line_kept
few_kept line b h =
    split (length line) 261 (λ l. simp (lt-ltb (length line) 261 l) (omega (arith, length-append line (b ∷ [])))) (λ l. simp (le-ltb (length line) 261 l) h)

-- what is left after i bytes
abbrev pub leaving : World → List ℕ → ℕ → ℕ → Reader → Feeding
leaving w out i at r = record { world = w; reader = r; used = i; written = at; out = out }

-- what a piece is from byte i on
next : (piece : List ℕ) (i : ℕ) → i < length piece → drop i piece ≡ get_or piece i 0 ∷ drop (i + 1) piece
next piece i h = drop-cons piece i 0 h ∙ ap (λ k. get_or piece i 0 ∷ drop k piece) (sym (add-one i))

pub going_start : (rom out piece : List ℕ) (w : World) (line : List ℕ) → length line ≤ 261 → Going rom (reading w line [] 0) out piece w line out 0 0
going_start rom out piece w line h = record {
  inside = omega arith;
  room = omega arith;
  few = h;
  same = refl;
  text = sym (placed_none out 0);
  rest = refl;
}

module _ (rom : List ℕ) (start : Reading) (out₀ piece : List ℕ) (w : World) where
  module _ (line out : List ℕ) (at i : ℕ) (g : Going rom start out₀ piece w line out at i) where
    here : Reading
    here = reading w line (take at out) i

    written : length (take at out) ≡ at
    written = length-take-le at out g.room

    -- LF: the line is carried out and answered
    pub going_line : i < length piece → get_or piece i 0 ≡ 0x0A → at + 11 ≤ length out
        → (w' : World) (out' : List ℕ) (end : ℕ) → Printed (step_of rom w line) w' out at out' end → length out' ≡ length out
        → Going rom start out₀ piece w' [] out' end (i + 1)
    unfolding here line_ended
    going_line l e r w' out' end p k = record {
      inside = omega arith;
      room = omega (arith, p.most);
      few = omega arith;
      same = k ∙ g.same;
      text = p.text ∙ ap (λ o. placed o at t) g.text ∙ placed_next out₀ 0 (take at out) (omega arith) t at (sym (zero-add (length (take at out)) ∙ written)) ∙ ap (placed out₀ 0) (sym now);
      rest =
          ap (λ m. fed rom (length out₀) m (drop (i + 1) piece)) (reading_alike w' (step_of rom w line).world [] (take end out') (take at out ++ t) (i + 1) p.world now)
          ∙ sym (fed_line rom (length out₀) here (get_or piece i 0) (drop (i + 1) piece) e (rw written (omega (arith, g.same))))
          ∙ ap (fed rom (length out₀) here) (sym (next piece i l))
          ∙ g.rest;
    }
      where
        t : List ℕ
        t = (step_of rom w line).text

        now : take end out' ≡ take at out ++ t
        now = ap (λ n. take n out') p.end ∙ ap (take (at + length t)) p.text ∙ take_placed out at t g.room

    -- another byte: it is held, or skipped
    going_byte : i < length piece → (get_or piece i 0 ≡ 0x0A → ⊥) → Going rom start out₀ piece w (line_kept line (get_or piece i 0)) out at (i + 1)
    unfolding here byte_kept
    going_byte l e = record {
      inside = omega arith;
      room = g.room;
      few = few_kept line (get_or piece i 0) g.few;
      same = g.same;
      text = g.text;
      rest =
          sym (fed_byte rom (length out₀) here (get_or piece i 0) (drop (i + 1) piece) e)
          ∙ ap (fed rom (length out₀) here) (sym (next piece i l))
          ∙ g.rest;
    }

    abbrev left : Feeding
    left = leaving w out i at (reader_of line)

    ends : fed rom (length out₀) here (drop i piece) ≡ here → left ≡ feeding out₀ (fed rom (length out₀) start piece)
    unfolding here
    ends e =
        sym (ap (λ n. leaving w (placed out₀ 0 (take at out)) i n (reader_of line)) written ∙ ap (λ o. leaving w o i at (reader_of line)) (sym g.text))
        ∙ ap (feeding out₀) (sym e ∙ g.rest)

    -- an LF for whose answer there may be no room
    going_stops : i < length piece → get_or piece i 0 ≡ 0x0A → length out < at + 11 → left ≡ feeding out₀ (fed rom (length out₀) start piece)
    unfolding here
    going_stops l e r =
        ends (ap (fed rom (length out₀) here) (next piece i l) ∙ fed_stops rom (length out₀) here (get_or piece i 0) (drop (i + 1) piece) e (rw written (omega (arith, g.same))))

    -- the piece is read
    going_ends : length piece ≤ i → left ≡ feeding out₀ (fed rom (length out₀) start piece)
    unfolding here
    going_ends h = ends (ap (fed rom (length out₀) here) (drop_of_length-le piece h) ∙ fed_none rom (length out₀) here)

    -- no line ends any more, or there may be no room for its answer
    pub going_done : (i < length piece → get_or piece i 0 ≡ 0x0A) → (r : Bool) → r ≡ (ltb i (length piece) && leb 11 (length out - at)) → r ≡ false
        → left ≡ feeding out₀ (fed rom (length out₀) start piece)
    going_done found r e f =
        split i (length piece)
        (λ l. split (length out) (at + 11)
        (λ m. going_stops l (found l) m)
        (λ m. not_both (simp (lt-ltb i (length piece) l, le-leb 11 (length out - at) (omega arith))) (sym e ∙ f)))
        (λ l. going_ends l)

  -- bytes none of which is LF: the first 261 of the line are held
  going_bytes : (line out : List ℕ) (at i : ℕ) → Going rom start out₀ piece w line out at i
      → (n : ℕ) → i + n ≤ length piece → ((k : ℕ) → i ≤ k → k < i + n → get_or piece k 0 ≡ 0x0A → ⊥)
      → Going rom start out₀ piece w (take 261 (line ++ take n (drop i piece))) out at (i + n)
  going_bytes line out at i g zero h none =
      let e : line ≡ take 261 (line ++ []) = sym (ap (take 261) (append-nil line) ∙ take_all 261 line g.few) in
      let z : i ≡ i + 0 = sym (add-zero i) in
      subst (λ x. Going rom start out₀ piece w x out at (i + 0)) e (subst (λ k. Going rom start out₀ piece w line out at k) z g)
  going_bytes line out at i g (suc n) h none =
      let before = going_bytes line out at i g n (omega arith) (λ k a b. none k a (omega arith)) in
      let p = line ++ take n (drop i piece) in
      let long : n < length (drop i piece) = simp length-drop (omega arith) in
      let b : get_or piece (i + n) 0 ≡ get_or (drop i piece) n 0 = sym (get_or-drop i piece n 0) in
      let e : line_kept (take 261 p) (get_or piece (i + n) 0) ≡ take 261 (line ++ take (suc n) (drop i piece)) =
      kept_more p (get_or piece (i + n) 0)
      ∙ ap (take 261) (append_assoc line (take n (drop i piece)) (get_or piece (i + n) 0 ∷ []) ∙ ap (λ x. line ++ (take n (drop i piece) ++ (x ∷ []))) b ∙ ap (λ x. line ++ x) (sym (take-suc (drop i piece) n 0 long))) in
      let z : i + n + 1 ≡ i + suc n = omega arith in
      subst (λ x. Going rom start out₀ piece w x out at (i + suc n)) e
      (subst (λ k. Going rom start out₀ piece w (line_kept (take 261 p) (get_or piece (i + n) 0)) out at k) z
      (going_byte (take 261 p) out at (i + n) before (omega arith) (none (i + n) (omega arith) (omega arith))))

  -- the bytes up to where a line ends
  pub going_on : (line out : List ℕ) (at i end : ℕ) → Going rom start out₀ piece w line out at i → Ends piece i end
      → Going rom start out₀ piece w (take 261 (line ++ take (end - i) (drop i piece))) out at end
  going_on line out at i end g e =
      let z : i + (end - i) ≡ end = omega (arith, e.after) in
      subst (λ k. Going rom start out₀ piece w (take 261 (line ++ take (end - i) (drop i piece))) out at k) z
      (going_bytes line out at i g (end - i) (omega (arith, e.inside, e.after)) (λ k a b. e.none k a (omega (arith, e.after))))

-- a line ends, and there is room for its answer
pub goes_on_lem : (end n room : ℕ) (r : Bool) → r ≡ (ltb end n && leb 11 room) → r ≡ true → (end < n) × (11 ≤ room)
goes_on_lem end n room r e t =
    let h = sym e ∙ t in
    (ltb-true end n (both_left (ltb end n) (leb 11 room) h), leb-true 11 room (both_right (ltb end n) (leb 11 room) h))

-- ---- the bytes that are held

-- of a list as many elements as there are, but no more
pub few_taken : (n : ℕ) (bytes : List ℕ) (m : ℕ) → m ≡ min (length bytes) n → take m bytes ≡ take n bytes
few_taken n bytes m e =
    split n (length bytes)
    (λ l. let s : m ≡ n = omega arith in ap (λ k. take k bytes) s)
    (λ l. take_all m bytes (omega arith) ∙ sym (take_all n bytes l))

pub few_held : (n : ℕ) (line : List ℕ) → n ≤ 261 → length (take n line) ≤ 261
few_held n line h = omega (arith, length-take n line)

-- bytes put after those that are held: the first 261 of the line
pub held_on_lem : (line : List ℕ) (held : ℕ) (bytes : List ℕ) → length line ≡ 261 → held ≤ 261 → (r : ℕ) → r ≡ held + length (take (261 - held) bytes)
    → take r (placed line held (take (261 - held) bytes)) ≡ take 261 (take held line ++ bytes)
held_on_lem line held bytes l h r e =
    let n : length (take held line) ≡ held = length-take-le held line (omega arith) in
    let s : 261 ≡ length (take held line) + (261 - held) = omega arith in
    ap (λ k. take k (placed line held (take (261 - held) bytes))) e
    ∙ take_placed line held (take (261 - held) bytes) (omega arith)
    ∙ sym (ap (λ k. take k (take held line ++ bytes)) s ∙ take-append-add (take held line) bytes (261 - held))

-- the end of the text, with no line begun and with one
pub finish_none : (rom : List ℕ) (w : World) (r : Reader) → min r.held 261 ≡ 0 → finish_means rom w r ≡ step w []
unfolding finish_means last_line held_by
finish_none rom w r e =
    let none : length (take (min r.held 261) r.line) ≡ 0 = ap (λ k. length (take k r.line)) e in
    simp (eq-eqb (length (take (min r.held 261) r.line)) 0 none)

pub finish_some : (rom : List ℕ) (w : World) (r : Reader) → length r.line ≡ 261 → (min r.held 261 ≡ 0 → ⊥)
    → finish_means rom w r ≡ step_of rom w (take (min r.held 261) r.line)
unfolding finish_means last_line held_by
finish_some rom w r l e =
    let long : length (take (min r.held 261) r.line) ≡ min r.held 261 = length-take-le (min r.held 261) r.line (omega arith) in
    simp (ne_eqb (length (take (min r.held 261) r.line)) 0 (λ z. e (sym long ∙ z)))

-- what a piece means, with the count of bytes held already taken as far as 261
pub begun : (rom : List ℕ) (w : World) (r : Reader) (piece out : List ℕ) (held : ℕ) → held ≡ min r.held 261
    → feeding out (fed rom (length out) (reading w (take held r.line) [] 0) piece) ≡ feed_means rom w r piece out
unfolding feed_means opened held_by
begun rom w r piece out held e = ap (λ h. feeding out (fed rom (length out) (reading w (take h r.line) [] 0) piece)) e

-- bytes put in front of zeros are what a reader holds
pub reader_made : (line : List ℕ) (held : ℕ) (x : List ℕ) → length line ≤ 261 → held ≡ length line → x ≡ placed (replicate 261 0) 0 (take 261 line)
    → ◌≡◌ {A = Reader} (record { line = x; held = held }) (reader_of line)
unfolding placed reader_of
reader_made line held x h e p =
    let q : x ≡ line ++ replicate (261 - length line) 0 =
    p
    ∙ ap (λ t. t ++ drop (0 + length t) (replicate 261 0)) (take_all 261 line h)
    ∙ ap (λ k. line ++ drop k (replicate 261 0)) (zero-add (length line))
    ∙ ap (λ r. line ++ r) (drop_zeros 261 (length line)) in
    (λ i. record { line = q i; held = e i })

-- the same step
pub printed_as : {s t : Step} {w : World} {out : List ℕ} {at : ℕ} {out' : List ℕ} {end : ℕ} → s ≡ t → Printed s w out at out' end → Printed t w out at out' end
printed_as {s} {t} {w} {out} {at} {out'} {end} e p = subst (λ (x : Step). Printed x w out at out' end) e p
