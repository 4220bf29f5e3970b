-- A recording that is audited in pieces, cut anywhere, is audited as a whole. Assumes nothing.
use mathlib.Core.Path.{◌≡◌, refl, sym, ap, subst, ◌∙◌}
use mathlib.Core.Bool.{Bool, true, false, not, ◌&&◌}
use mathlib.Core.List.{List, [], ◌∷◌, ◌++◌, append_assoc, append-nil}
use Prim.Native.Nat.{ℕ, zero, suc, ◌+◌, ◌-◌, ◌<◌, ◌≤◌}
use native.Mathlib.Nat.{zero-add}
use native.Mathlib.Omega.{arith}
use lib.Dec.{eqb}
use lib.ListN.{length, take, drop, set, length-append, length-take, length-drop, drop_of_length-le}
use lib.Seq.{get_or-set_same, get_or-set_other, take_all, take-append-le, take-append-add, length-take-le}
use borrow.Author.Tests.{eqb-true, eq-eqb, ne_eqb, lt-ltb, le-ltb, not-true}
use Rattle.laws.specs.Pick.{pick}
use Rattle.laws.proofs.Bools.{either, both_left, both_right}
use Rattle.laws.proofs.Order.{split}
use Rattle.lines.specs.Hex.{placed}
use Rattle.lines.proofs.Placed.{take_placed}
use Rattle.session.specs.Session.{World}
use Rattle.script.specs.Text.{begins, lines_of}
use Rattle.script.specs.Pieces.{joined}
use Rattle.wording.specs.Events.{held_text}
use Rattle.events.specs.Book.{noted, new_book, written, held}
use Rattle.auditing.specs.Line.{Audited, audit_of, audit_all}
use Rattle.pieces.specs.Pieces.{Standing, line_in, held_in, more_of, line_held, ended, kept, piece_audited, last_audited, held_said, end_audited}
use Rattle.audited.specs.Loop.{Auditing, auditing_from, called, call, piece_read, looped, InPieces}
use Rattle.audited.proofs.Writes.{Long, long_next}
use Rattle.audited.proofs.Alike.{Alike, alike_then, alike_first, SameSaid, lines_same, enough_said}

-- ---- lines, and bytes without LF

unfoldable pub no_end : List ℕ → Bool
no_end [] = true
no_end (b ∷ rest) = not (eqb b 0x0A) && no_end rest

first_no : (b : ℕ) (rest : List ℕ) → no_end (b ∷ rest) ≡ true → (eqb b 0x0A ≡ false) × (no_end rest ≡ true)
unfolding no_end
first_no b rest h = (not-true (eqb b 0x0A) (both_left (not (eqb b 0x0A)) (no_end rest) h), both_right (not (eqb b 0x0A)) (no_end rest) h)

both_no : (p q : List ℕ) → no_end p ≡ true → no_end q ≡ true → no_end (p ++ q) ≡ true
unfolding no_end
both_no [] q h k = k
both_no (b ∷ p) q h k = let f = first_no b p h in rw (f.0, both_no p q f.1 k)

line_no : (q : List ℕ) → no_end (line_in q) ≡ true
unfolding no_end line_in
line_no [] = refl
line_no (b ∷ rest) = either (eqb b 0x0A) (λ e. rw e) (λ e. rw e (rw (e, line_no rest)))

-- a line that an LF ends
pub ended_line : (l t : List ℕ) → no_end l ≡ true → lines_of (l ++ (0x0A ∷ t)) ≡ l ∷ lines_of t
unfolding lines_of
ended_line [] t h = refl
ended_line (b ∷ l) t h = let f = first_no b l h in rw (f.0, ended_line l t f.1)

-- and a last one
last_line_lem : (b : ℕ) (l : List ℕ) → no_end (b ∷ l) ≡ true → lines_of (b ∷ l) ≡ (b ∷ l) ∷ []
last_line_lem b [] h = let f = first_no b [] h in unfold lines_of in rw f.0
last_line_lem b (c ∷ l) h =
    let f = first_no b (c ∷ l) h in
    let r = last_line_lem c l f.1 in
    let e : lines_of (b ∷ c ∷ l) ≡ begins b (lines_of (c ∷ l)) = unfold lines_of in ap (λ (t : Bool). pick t ([] ∷ lines_of (c ∷ l)) (begins b (lines_of (c ∷ l)))) f.0 in
    e ∙ ap (begins b) r

-- a piece up to its first LF
line_cut : (q : List ℕ) → length (line_in q) < length q → q ≡ line_in q ++ (0x0A ∷ drop (length (line_in q) + 1) q)
unfolding line_in
line_cut [] = λ h. absurd (omega arith)
line_cut (b ∷ rest) =
    either (eqb b 0x0A)
    (λ e. rw e (λ h. ap (λ (x : ℕ). x ∷ rest) (eqb-true b 0x0A e)))
    (λ e.
    rw e
    (λ h.
    let r = line_cut rest (omega arith) in
    let n : suc (length (line_in rest)) + 1 ≡ suc (length (line_in rest) + 1) = omega arith in
    ap (λ (x : List ℕ). b ∷ x) r ∙ ap (λ (k : ℕ). b ∷ (line_in rest ++ (0x0A ∷ drop k (b ∷ rest)))) (sym n)))

line_all : (q : List ℕ) → length q ≤ length (line_in q) → line_in q ≡ q
unfolding line_in
line_all [] = λ h. refl
line_all (b ∷ rest) =
    either (eqb b 0x0A)
    (λ e. rw e (λ h. absurd (omega arith)))
    (λ e. rw e (λ h. ap (λ (x : List ℕ). b ∷ x) (line_all rest (omega arith))))

-- ---- what is held of a line

-- the first 261 bytes of a line that goes on
take_more : (p q : List ℕ) (n : ℕ) → n ≡ length (take 261 p) → take 261 p ++ take (261 - n) q ≡ take 261 (p ++ q)
take_more p q n e =
    split 261 (length p)
    (λ l.
    let m : 261 - n ≡ 0 = omega (arith, e, length-take 261 p) in
    ap (λ (k : ℕ). take 261 p ++ take k q) m ∙ append-nil (take 261 p) ∙ sym (take-append-le 261 p q (omega arith)))
    (λ l.
    let t : take 261 p ≡ p = take_all 261 p l in
    let m : n ≡ length p = e ∙ ap length t in
    let j : 261 ≡ length p + (261 - n) = omega arith in
    ap (λ (x : List ℕ). x ++ take (261 - n) q) t ∙ sym (ap (λ (k : ℕ). take k (p ++ q)) j ∙ take-append-add p q (261 - n)))

-- the book and the buffer hold the first 261 bytes of the line that has begun
record Holds (b line p : List ℕ) : Type 0 where
  pub long : Long b
  pub few : noted b held ≤ 261
  pub fits : noted b held ≤ length line
  pub bytes : take (noted b held) line ≡ take 261 p
  pub no : no_end p ≡ true

holds_new : (b line : List ℕ) → Long b → noted b held ≡ 0 → Holds b line []
unfolding no_end
holds_new b line l e = record {
  long = l;
  few = omega (arith, e);
  fits = omega (arith, e);
  bytes = ap (λ (k : ℕ). take k line) e;
  no = refl;
}

module _ (b line p : List ℕ) (h : Holds b line p) where
  all_held : held_in b ≡ noted b held
  all_held = omega (arith, h.few)

  so_many : held_in b ≡ length (take 261 p)
  so_many = all_held ∙ sym (length-take-le (noted b held) line h.fits) ∙ ap length h.bytes

  held_bytes : take (held_in b) line ≡ take 261 p
  held_bytes = ap (λ (k : ℕ). take k line) all_held ∙ h.bytes

  -- with those of a piece
  piece_bytes : (q : List ℕ) → take (held_in b + length (more_of b q)) (line_held b line q) ≡ take 261 (p ++ line_in q)
  piece_bytes q =
      take_placed line (held_in b) (more_of b q) (rw all_held h.fits)
      ∙ ap (λ (x : List ℕ). x ++ more_of b q) held_bytes
      ∙ take_more p (line_in q) (held_in b) so_many

  piece_few : (q : List ℕ) → held_in b + length (more_of b q) ≤ 261
  piece_few q = omega (arith, length-take (261 - held_in b) (line_in q))

  -- they fit
  piece_fits : (q : List ℕ) → held_in b + length (more_of b q) ≤ length (line_held b line q)
  piece_fits q =
      let n = held_in b + length (more_of b q) in
      let front : length (take n (line_held b line q)) ≡ n =
      ap length (take_placed line (held_in b) (more_of b q) (rw all_held h.fits))
      ∙ length-append (take (held_in b) line) (more_of b q)
      ∙ ap (λ (k : ℕ). k + length (more_of b q)) (length-take-le (held_in b) line (rw all_held h.fits)) in
      omega (arith, front, length-take n (line_held b line q))

-- ---- what is said from here on

abbrev said : Audited → List ℕ
said a = a.text ++ held_said a

-- a program comes to what these lines come to from where it stands
record Onward (rom : List ℕ) (end p : Auditing) (ls : List (List ℕ)) : Type 0 where
  pub text : end.text ≡ p.text ++ said (audit_all rom p.world p.book ls)
  pub world : end.world ≡ (audit_all rom p.world p.book ls).world
  pub book : Alike end.book (audit_all rom p.world p.book ls).book

held_same : (a c : Audited) → SameSaid a c → held_said a ≡ held_said c
unfolding held_said
held_same a c s =
    let n = s.book.same 2 (omega arith) in
    (λ i. pick (s.world i).state.held (held_text (n i) (s.world i).state.started (s.world i).state.elapsed.0) [])

said_same : (a c : Audited) → SameSaid a c → said a ≡ said c
said_same a c s = (λ i. s.text i ++ held_same a c s i)

-- what a call has written is its text
written_text : (out t : List ℕ) → take (length t) (placed out 0 t) ≡ t
written_text out t = ap (λ (n : ℕ). take n (placed out 0 t)) (sym (zero-add (length t))) ∙ take_placed out 0 t (omega arith)

module _ (rom : List ℕ) (outs : ℕ → List ℕ) where
  -- a call that ends a line
  module _ (p : Auditing) (l : List ℕ) (long : Long p.book) (a : Audited) (is : audit_of rom p.world p.book l ≡ a) (line out : List ℕ) (used : ℕ) where
    abbrev book' : List ℕ
    book' = set (set a.book held 0) written (length a.text)

    long_a : Long a.book
    long_a = subst (λ (x : Audited). Long x.book) is (long_next rom p.world p.book l long)

    abbrev left : Standing
    left = record { world = a.world; book = book'; line = line; out = placed out 0 a.text; used = used }

    alike_book : Alike book' a.book
    alike_book =
        let x = alike_first a.book held 0 (omega arith) long_a in
        alike_then (alike_first (set a.book held 0) written (length a.text) (omega arith) x.long) x

    none_held : noted book' held ≡ 0
    none_held =
        get_or-set_other (set a.book held 0) written held (length a.text) 0 (λ e. omega arith) ∙ get_or-set_same a.book held 0 0 (omega (arith, long_a))

    printed : take (noted book' written) (placed out 0 a.text) ≡ a.text
    printed =
        ap (λ (n : ℕ). take n (placed out 0 a.text)) (get_or-set_same (set a.book held 0) written (length a.text) 0 (omega (arith, (alike_first a.book held 0 (omega arith) long_a).long)))
        ∙ written_text out a.text

    ended_onward : (end : Auditing) (ls : List (List ℕ)) → Onward rom end (called p left) ls → Onward rom end p (l ∷ ls)
    unfolding audit_all held_said
    ended_onward end ls o =
        let s = lines_same rom ls a.world alike_book in
        let t = said_same _ _ s in
        let next : Audited → Audited =
        λ x. record { world = (audit_all rom x.world x.book ls).world; book = (audit_all rom x.world x.book ls).book; text = x.text ++ (audit_all rom x.world x.book ls).text } in
        let e : next a ≡ audit_all rom p.world p.book (l ∷ ls) = ap next (sym is) in
        record {
          text =
              o.text
              ∙ (λ i. (p.text ++ printed i) ++ t i)
              ∙ append_assoc p.text a.text (said (audit_all rom a.world a.book ls))
              ∙ ap (λ (x : List ℕ). p.text ++ x) (sym (append_assoc a.text (audit_all rom a.world a.book ls).text (held_said (audit_all rom a.world a.book ls))))
              ∙ ap (λ (x : Audited). p.text ++ said x) e;
          world = o.world ∙ s.world ∙ ap (λ (x : Audited). x.world) e;
          book = subst (λ (x : Audited). Alike end.book x.book) e (alike_then o.book s.book);
        }

  -- ---- one call

  -- what the next calls come to is what it all comes to, and they are fewer bytes
  record MovedTo (p : Auditing) (first piece rest : List ℕ) (s : Standing) : Type 0 where
    pub first' : List ℕ
    pub holds : Holds s.book s.line first'
    pub used : 0 < s.used
    pub onward : (end : Auditing) → Onward rom end (called p s) (lines_of (first' ++ (drop s.used piece ++ rest))) → Onward rom end p (lines_of (first ++ (piece ++ rest)))

  module _ (p : Auditing) (first : List ℕ) (h : Holds p.book p.line first) (piece rest : List ℕ) (some : length piece ≡ 0 → ⊥) where
    abbrev out : List ℕ
    out = outs p.calls

    call_ends : length (line_in piece) < length piece
        → call rom outs p piece
        ≡ ended (line_held p.book p.line piece) out piece
        (audit_of rom p.world p.book (take (held_in p.book + length (more_of p.book piece)) (line_held p.book p.line piece)))
    unfolding piece_audited
    call_ends l = rw (lt-ltb (length (line_in piece)) (length piece) l)

    call_keeps : length piece ≤ length (line_in piece) → call rom outs p piece ≡ kept p.world p.book (line_held p.book p.line piece) out piece
    unfolding piece_audited
    call_keeps l = rw (le-ltb (length (line_in piece)) (length piece) l)

    -- an LF in it
    with_end_lem : length (line_in piece) < length piece → MovedTo p first piece rest (call rom outs p piece)
    with_end_lem l =
        let b = p.book in
        let n = held_in b + length (more_of b piece) in
        let line = line_held b p.line piece in
        let a = audit_of rom p.world b (take n line) in
        let s = ended line out piece a in
        let c : call rom outs p piece ≡ s = call_ends l in
        let is : audit_of rom p.world b (first ++ line_in piece) ≡ a =
        sym (ap (audit_of rom p.world b) (piece_bytes b p.line first h piece) ∙ enough_said rom p.world b (first ++ line_in piece)) in
        let rest' = drop (length (line_in piece) + 1) piece ++ rest in
        let lines_are : lines_of (first ++ (piece ++ rest)) ≡ (first ++ line_in piece) ∷ lines_of rest' =
        ap (λ (x : List ℕ). lines_of (first ++ (x ++ rest))) (line_cut piece l)
        ∙ ap (λ (x : List ℕ). lines_of (first ++ x)) (append_assoc (line_in piece) (0x0A ∷ drop (length (line_in piece) + 1) piece) rest)
        ∙ ap lines_of (sym (append_assoc first (line_in piece) (0x0A ∷ rest')))
        ∙ ended_line (first ++ line_in piece) rest' (both_no first (line_in piece) h.no (line_no piece)) in
        let used = length (line_in piece) + 1 in
        let new : Holds s.book line [] =
        holds_new s.book line (alike_book p (first ++ line_in piece) h.long a is line out used).long (none_held p (first ++ line_in piece) h.long a is line out used) in
        subst (λ (x : Standing). MovedTo p first piece rest x) (sym c)
        (record {
          first' = [];
          holds = new;
          used = omega arith;
          onward = λ end o. subst (λ (ls : List (List ℕ)). Onward rom end p ls) (sym lines_are) (ended_onward p (first ++ line_in piece) h.long a is line out used end (lines_of rest') o);
        })

    -- no LF in it
    without : length piece ≤ length (line_in piece) → MovedTo p first piece rest (call rom outs p piece)
    without l =
        let b = p.book in
        let n = held_in b + length (more_of b piece) in
        let line = line_held b p.line piece in
        let s = kept p.world b line out piece in
        let c : call rom outs p piece ≡ s = call_keeps l in
        let all : line_in piece ≡ piece = line_all piece l in
        let x = alike_first b held n (omega arith) h.long in
        let y = alike_first (set b held n) written 0 (omega arith) x.long in
        let alike : Alike s.book b = alike_then y x in
        let now : noted s.book held ≡ n =
        get_or-set_other (set b held n) written held 0 0 (λ e. omega arith) ∙ get_or-set_same b held n 0 (omega (arith, h.long)) in
        let nothing : noted s.book written ≡ 0 = get_or-set_same (set b held n) written 0 0 (omega (arith, x.long)) in
        let printed : p.text ++ take (noted s.book written) out ≡ p.text = ap (λ (k : ℕ). p.text ++ take k out) nothing ∙ append-nil p.text in
        let new : Holds s.book line (first ++ piece) =
        record {
          long = y.long;
          few = rw now (piece_few b p.line first h piece);
          fits = rw now (piece_fits b p.line first h piece);
          bytes = ap (λ (k : ℕ). take k line) now ∙ piece_bytes b p.line first h piece ∙ ap (λ (q : List ℕ). take 261 (first ++ q)) all;
          no = both_no first piece h.no (ap no_end (sym all) ∙ line_no piece);
        } in
        let gone : drop (length piece) piece ≡ [] = drop_of_length-le piece {i = length piece} (omega arith) in
        let lines_are : lines_of ((first ++ piece) ++ (drop (length piece) piece ++ rest)) ≡ lines_of (first ++ (piece ++ rest)) =
        ap (λ (q : List ℕ). lines_of ((first ++ piece) ++ (q ++ rest))) gone ∙ ap lines_of (append_assoc first piece rest) in
        subst (λ (u : Standing). MovedTo p first piece rest u) (sym c)
        (record {
          first' = first ++ piece;
          holds = new;
          used = omega (arith, some);
          onward = λ end o.
              let ls = lines_of (first ++ (piece ++ rest)) in
              let o' : Onward rom end (called p s) ls = subst (λ (ks : List (List ℕ)). Onward rom end (called p s) ks) lines_are o in
              let same = lines_same rom ls p.world alike in
              record {
                text = o'.text ∙ (λ i. printed i ++ said_same _ _ same i);
                world = o'.world ∙ same.world;
                book = alike_then o'.book same.book;
              };
        })

    moved : MovedTo p first piece rest (call rom outs p piece)
    moved = split (length (line_in piece)) (length piece) with_end_lem without

  -- ---- the end of the recording

  module _ (p : Auditing) where
    abbrev last : Audited
    last = last_audited rom p.world p.book p.line

    ends_as : (a : Audited) (ls : List (List ℕ)) → last ≡ a → audit_all rom p.world p.book ls ≡ a → Long a.book → Onward rom (looped rom outs p []) p ls
    unfolding looped end_audited
    ends_as a ls e f long =
        let out = outs p.calls in
        let x = alike_first a.book held 0 (omega arith) long in
        let y = alike_first (set a.book held 0) written (length (said a)) (omega arith) x.long in
        let n : noted (set (set a.book held 0) written (length (said a))) written ≡ length (said a) =
        get_or-set_same (set a.book held 0) written (length (said a)) 0 (omega (arith, x.long)) in
        record {
          text =
              ap (λ (z : Audited). p.text ++ take (noted (set (set z.book held 0) written (length (said z))) written) (placed out 0 (said z))) e
              ∙ ap (λ (k : ℕ). p.text ++ take k (placed out 0 (said a))) n
              ∙ ap (λ (t : List ℕ). p.text ++ t) (written_text out (said a))
              ∙ ap (λ (z : Audited). p.text ++ said z) (sym f);
          world = ap (λ (z : Audited). z.world) (e ∙ sym f);
          book =
              subst (λ (z : Audited). Alike (set (set last.book held 0) written (length (said last))) z.book) (sym f)
              (subst (λ (z : Audited). Alike (set (set z.book held 0) written (length (said z))) a.book) (sym e) (alike_then y x));
        }

    nothing_held : held_in p.book ≡ 0 → last ≡ record { world = p.world; book = p.book; text = [] }
    unfolding last_audited
    nothing_held e = rw (eq-eqb (held_in p.book) 0 e)

    something_held : (held_in p.book ≡ 0 → ⊥) → last ≡ audit_of rom p.world p.book (take (held_in p.book) p.line)
    unfolding last_audited
    something_held e = rw (ne_eqb (held_in p.book) 0 e)

    one_line : (l : List ℕ) → audit_all rom p.world p.book (l ∷ []) ≡ audit_of rom p.world p.book l
    unfolding audit_all
    one_line l =
        let a = audit_of rom p.world p.book l in
        (λ i. record { world = a.world; book = a.book; text = append-nil a.text i })

    no_line_lem : audit_all rom p.world p.book [] ≡ record { world = p.world; book = p.book; text = [] }
    unfolding audit_all
    no_line_lem = refl

    no_lines : lines_of [] ≡ []
    unfolding lines_of
    no_lines = refl

    the_last : (first : List ℕ) → Holds p.book p.line first → Onward rom (looped rom outs p []) p (lines_of (first ++ []))
    the_last [] h = rw no_lines (ends_as (record { world = p.world; book = p.book; text = [] }) [] (nothing_held (so_many p.book p.line [] h)) no_line_lem h.long)
    the_last (b ∷ first) h =
        let l = b ∷ first in
        let a = audit_of rom p.world p.book l in
        let n : held_in p.book ≡ 0 → ⊥ = λ z. omega (arith, z, so_many p.book p.line l h, length-take 261 l) in
        subst (λ (ls : List (List ℕ)). Onward rom (looped rom outs p []) p ls) (sym (ap lines_of (append-nil l) ∙ last_line_lem b first h.no))
        (ends_as a (l ∷ []) (something_held n ∙ ap (audit_of rom p.world p.book) (held_bytes p.book p.line l h) ∙ enough_said rom p.world p.book l) (one_line l)
        (long_next rom p.world p.book l h.long))

  -- ---- all pieces

  -- all calls of a piece, with what the pieces after it come to
  piece_read_lem : (most : ℕ) (p : Auditing) (first piece : List ℕ) (pieces : List (List ℕ)) → length piece ≤ most → Holds p.book p.line first
      → ((q : Auditing) (f : List ℕ) → Holds q.book q.line f → Onward rom (looped rom outs q pieces) q (lines_of (f ++ joined pieces)))
      → Onward rom (looped rom outs (piece_read most rom outs p piece) pieces) p (lines_of (first ++ (piece ++ joined pieces)))
  unfolding piece_read
  piece_read_lem zero p first [] pieces l h on = on p first h
  piece_read_lem zero p first (b ∷ rest) pieces l h on = absurd (omega arith)
  piece_read_lem (suc most) p first [] pieces l h on = on p first h
  piece_read_lem (suc most) p first (b ∷ rest) pieces l h on =
      let s = call rom outs p (b ∷ rest) in
      let m = moved p first h (b ∷ rest) (joined pieces) (λ z. omega arith) in
      m.onward _
      (piece_read_lem most (called p s) m.first' (drop s.used (b ∷ rest)) pieces (omega (arith, length-drop s.used (b ∷ rest), m.used)) m.holds on)

  all_read : (pieces : List (List ℕ)) (p : Auditing) (first : List ℕ) → Holds p.book p.line first
      → Onward rom (looped rom outs p pieces) p (lines_of (first ++ joined pieces))
  unfolding looped
  all_read [] p first h = the_last p first h
  all_read (piece ∷ pieces) p first h = piece_read_lem (length piece) p first piece pieces (omega arith) h (λ q f. all_read pieces q f)

  -- In pieces: a recording in any pieces, with any buffers, comes to what its lines come to
  pub in_pieces : (w : World) (line : List ℕ) (pieces : List (List ℕ)) → InPieces rom w pieces (looped rom outs (auditing_from w line) pieces)
  in_pieces w line pieces =
      let o = all_read pieces (auditing_from w line) [] (holds_new new_book line refl refl) in
      record { text = o.text; world = o.world; book = o.book.same }
