-- What holds while whole lines are played, line by line. Assumes nothing.
use mathlib.Core.Path.{◌≡◌, refl, sym, ap, subst, ◌∙◌}
use mathlib.Core.Bool.{true}
use mathlib.Core.List.{List, [], ◌∷◌, ◌++◌, append_assoc, append-nil}
use Prim.Native.Nat.{ℕ, zero, suc, ◌+◌, ◌-◌, ◌<◌, ◌≤◌}
use native.Mathlib.Numerals.{add-one}
use native.Mathlib.Nat.{zero-add}
use native.Mathlib.Omega.{arith}
use lib.ListN.{length, get_or, take, drop, take-append-drop, length-append, length-drop}
use lib.Seq.{drop-cons, take-suc, get_or-drop, length-take-le, take-append-add}
use borrow.Author.Tests.{eq-eqb, ne_eqb, eqb-true}
use Rattle.laws.proofs.Order.{split}
use Rattle.lines.specs.Hex.{placed}
use Rattle.lines.proofs.Placed.{placed_none, placed_next}
use Rattle.session.specs.Session.{World}
use Rattle.short.specs.Aside.{Ends}
use Rattle.script.specs.Text.{lines_of}
use Rattle.auditing.specs.Line.{Audited, audit_of, audit_all}
use Rattle.auditing.specs.Aside.{Audits}
use Rattle.audited.proofs.Sessions.{world_append, book_append}
use Rattle.audited.proofs.Loop.{no_end, ended_line}
use Rattle.sweeping.specs.Aside.{swept_by, begins, Sweeps, Strides}

-- what lines say after lines
pub text_append : (rom : List ℕ) (xs : List (List ℕ)) (w : World) (b : List ℕ) (ys : List (List ℕ))
    → (audit_all rom w b (xs ++ ys)).text ≡ (audit_all rom w b xs).text ++ (audit_all rom (audit_all rom w b xs).world (audit_all rom w b xs).book ys).text
unfolding audit_all
text_append rom [] w b ys = refl
text_append rom (line ∷ xs) w b ys =
    ap (λ (t : List ℕ). (audit_of rom w b line).text ++ t) (text_append rom xs (audit_of rom w b line).world (audit_of rom w b line).book ys)
    ∙ sym (append_assoc (audit_of rom w b line).text (audit_all rom (audit_of rom w b line).world (audit_of rom w b line).book xs).text _)

-- nothing is played yet
pub sweeps_none : (rom : List ℕ) (w : World) (b piece out : List ℕ) → Sweeps rom w b piece out w b out 0 0
unfolding audit_all lines_of
sweeps_none rom w b piece out = record {
  inside = omega arith;
  cut = λ rest. refl;
  world = refl;
  book = refl;
  text = sym (placed_none out 0);
  end = refl;
  room = omega arith;
  whole = refl;
  roomy = λ k l _. absurd (omega arith);
}

-- bytes from a place on, up to the first LF
no_end_lem : (piece : List ℕ) (n i : ℕ) → ((k : ℕ) → i ≤ k → k < i + n → get_or piece k 0 ≡ 0x0A → ⊥) → i + n ≤ length piece → no_end (take n (drop i piece)) ≡ true
unfolding no_end
no_end_lem piece zero i h l = refl
no_end_lem piece (suc n) i h l =
    let e : drop i piece ≡ get_or piece i 0 ∷ drop (suc i) piece = drop-cons piece i 0 (omega arith) in
    rw e (rw (ne_eqb (get_or piece i 0) 0x0A (λ q. h i (omega arith) (omega arith) q), no_end_lem piece n (suc i) (λ k a c. h k (omega arith) (omega arith)) (omega arith)))

-- the bytes up to a place, and so many more
take_on : (piece : List ℕ) (i n : ℕ) → i ≤ length piece → take (i + n) piece ≡ take i piece ++ take n (drop i piece)
take_on piece i n h =
    let e : length (take i piece) ≡ i = length-take-le i piece h in
    sym (ap (λ k. take (k + n) piece) e)
    ∙ ap (take (length (take i piece) + n)) (sym (take-append-drop i piece))
    ∙ take-append-add (take i piece) (drop i piece) n

-- the bytes up to a line, the line, and its LF
one_more_lem : (piece : List ℕ) (i end : ℕ) → i ≤ end → end < length piece → get_or piece end 0 ≡ 0x0A
    → take (end + 1) piece ≡ take i piece ++ (take (end - i) (drop i piece) ++ (0x0A ∷ []))
one_more_lem piece i end a l e =
    let n : end + 1 ≡ i + suc (end - i) = omega arith in
    let m : i + (end - i) ≡ end = omega arith in
    let lf : get_or (drop i piece) (end - i) 0 ≡ 0x0A = get_or-drop i piece (end - i) 0 ∙ ap (λ k. get_or piece k 0) m ∙ e in
    ap (λ k. take k piece) n
    ∙ take_on piece i (suc (end - i)) (omega arith)
    ∙ ap (λ (x : List ℕ). take i piece ++ x) (take-suc (drop i piece) (end - i) 0 (omega (arith, length-drop i piece)) ∙ ap (λ (x : ℕ). take (end - i) (drop i piece) ++ (x ∷ [])) lf)

module _ (rom : List ℕ) (w₀ : World) (b₀ piece out₀ : List ℕ) (w : World) (b out : List ℕ) (i at : ℕ) (s : Sweeps rom w₀ b₀ piece out₀ w b out i at) where
  -- the lines that are played
  played : List (List ℕ)
  played = lines_of (take i piece)

  module _ (end : ℕ) (e : Ends piece i end) (l : end < length piece) where
    line : List ℕ
    line = take (end - i) (drop i piece)

    no : no_end line ≡ true
    unfolding line
    no = no_end_lem piece (end - i) i (λ k a c. e.none k a (omega (arith, e.after))) (omega (arith, e.after))

    cut_at : take (end + 1) piece ≡ take i piece ++ (line ++ (0x0A ∷ []))
    unfolding line
    cut_at = one_more_lem piece i end e.after l (e.found l)

    -- with what follows
    lines_then : (rest : List ℕ) → lines_of (take (end + 1) piece ++ rest) ≡ played ++ (line ∷ lines_of rest)
    unfolding played
    lines_then rest =
        ap (λ (x : List ℕ). lines_of (x ++ rest)) cut_at
        ∙ ap lines_of (append_assoc (take i piece) (line ++ (0x0A ∷ [])) rest ∙ ap (λ (x : List ℕ). take i piece ++ x) (append_assoc line (0x0A ∷ []) rest))
        ∙ s.cut (line ++ (0x0A ∷ rest))
        ∙ ap (λ (x : List (List ℕ)). lines_of (take i piece) ++ x) (ended_line line rest no)

    lines_now : lines_of (take (end + 1) piece) ≡ played ++ (line ∷ [])
    unfolding lines_of
    lines_now = ap lines_of (sym (append-nil (take (end + 1) piece))) ∙ lines_then []

    -- what was said before it, and what it says
    before : List ℕ
    before = (swept_by rom w₀ b₀ (take i piece)).text

    here : Audited
    here = audit_of rom w b line

    same_here : here ≡ audit_of rom (swept_by rom w₀ b₀ (take i piece)).world (swept_by rom w₀ b₀ (take i piece)).book line
    unfolding here
    same_here = ap (λ (x : World). audit_of rom x b line) s.world ∙ ap (λ (x : List ℕ). audit_of rom (swept_by rom w₀ b₀ (take i piece)).world x line) s.book

    world_now : here.world ≡ (swept_by rom w₀ b₀ (take (end + 1) piece)).world
    unfolding played audit_all
    world_now = ap (λ (x : Audited). x.world) same_here ∙ sym (world_append rom (lines_of (take i piece)) w₀ b₀ (line ∷ [])) ∙ ap (λ (x : List (List ℕ)). (audit_all rom w₀ b₀ x).world) (sym lines_now)

    book_now : here.book ≡ (swept_by rom w₀ b₀ (take (end + 1) piece)).book
    unfolding played audit_all
    book_now = ap (λ (x : Audited). x.book) same_here ∙ sym (book_append rom (lines_of (take i piece)) w₀ b₀ (line ∷ [])) ∙ ap (λ (x : List (List ℕ)). (audit_all rom w₀ b₀ x).book) (sym lines_now)

    text_now : before ++ here.text ≡ (swept_by rom w₀ b₀ (take (end + 1) piece)).text
    unfolding played audit_all before
    text_now =
        ap (λ (x : Audited). (swept_by rom w₀ b₀ (take i piece)).text ++ x.text) same_here
        ∙ ap (λ (x : List ℕ). (swept_by rom w₀ b₀ (take i piece)).text ++ x) (sym (append-nil _))
        ∙ sym (text_append rom (lines_of (take i piece)) w₀ b₀ (line ∷ []))
        ∙ ap (λ (x : List (List ℕ)). (audit_all rom w₀ b₀ x).text) (sym lines_now)

    -- of the places in a line only its first begins one, and there was room
    first_only : (k : ℕ) → i < k → k < end + 1 → begins piece k ≡ true → ⊥
    first_only zero a h b = omega arith
    first_only (suc k) a h b = e.none k (omega arith) (omega arith) (eqb-true (get_or piece k 0) 0x0A b)

    had_room : (k : ℕ) → k < end + 1 → begins piece k ≡ true → i ≤ k → at + 256 ≤ length out₀ → length (swept_by rom w₀ b₀ (take k piece)).text + 256 ≤ length out₀
    had_room k h b a r =
        split i k (λ later. absurd (first_only k later h b))
        (λ here. let same : i ≡ k = omega arith in subst (λ j. length (swept_by rom w₀ b₀ (take j piece)).text + 256 ≤ length out₀) same (omega (arith, s.end)))

    -- a line more
    pub sweeps_line : (w' : World) (b' out' : List ℕ) (at' : ℕ) → Audits (audit_of rom w b (take (end - i) (drop i piece))) w' out at b' out' at' → at + 256 ≤ length out₀
        → Sweeps rom w₀ b₀ piece out₀ w' b' out' (end + 1) at'
    unfolding line here before played
    sweeps_line w' b' out' at' a r = record {
      inside = omega arith;
      cut = λ rest. lines_then rest ∙ sym (append_assoc (lines_of (take i piece)) (line ∷ []) (lines_of rest)) ∙ ap (λ (x : List (List ℕ)). x ++ lines_of rest) (sym lines_now);
      world = a.world ∙ world_now;
      book = a.book ∙ book_now;
      text =
          a.text
          ∙ ap (λ (o : List ℕ). placed o at here.text) s.text
          ∙ placed_next out₀ 0 before (omega (arith, s.end, s.room)) here.text at (s.end ∙ sym (zero-add (length before)))
          ∙ ap (placed out₀ 0) text_now;
      end = a.end ∙ ap (λ (k : ℕ). k + length here.text) s.end ∙ sym (length-append before here.text) ∙ ap length text_now;
      room = omega (arith, a.few);
      whole = subst (λ k. begins piece k ≡ true) (sym (add-one end)) (eq-eqb (get_or piece end 0) 0x0A (e.found l));
      roomy = λ k h b. split k i
          (λ before. s.roomy k before b)
          (λ after. had_room k h b after r);
    }

module _ (rom piece : List ℕ) (w : World) (b out : List ℕ) (i at : ℕ) where
  -- no line is played
  pub strides_none : i ≤ length piece → at ≤ length out → Strides rom piece w b out i at w b out i at
  strides_none h r = record { onward = omega arith; inside = h; room = r; swept = λ _ _ _ _ s. s }

  -- a line is played
  pub strides_line : (end : ℕ) → Ends piece i end → end < length piece → at + 256 ≤ length out → (w' : World) (b' out' : List ℕ) (at' : ℕ)
      → Audits (audit_of rom w b (take (end - i) (drop i piece))) w' out at b' out' at' → Strides rom piece w b out i at w' b' out' (end + 1) at'
  strides_line end e l r w' b' out' at' a = record {
    onward = omega (arith, e.after);
    inside = omega arith;
    room = omega (arith, a.few);
    swept = λ w₀ b₀ out₀ k s. sweeps_line rom w₀ b₀ piece out₀ w b out i at s end e l w' b' out' at' a (omega (arith, k));
  }

  -- and lines after those
  pub strides_on : (w' : World) (b' out' : List ℕ) (i' at' : ℕ) → Strides rom piece w b out i at w' b' out' i' at' → length out' ≡ length out
      → (w'' : World) (b'' out'' : List ℕ) (i'' at'' : ℕ) → Strides rom piece w' b' out' i' at' w'' b'' out'' i'' at'' → Strides rom piece w b out i at w'' b'' out'' i'' at''
  strides_on w' b' out' i' at' m k w'' b'' out'' i'' at'' n = record {
    onward = omega (arith, m.onward, n.onward);
    inside = n.inside;
    room = omega (arith, n.room);
    swept = λ w₀ b₀ out₀ h s. n.swept w₀ b₀ out₀ (k ∙ h) (m.swept w₀ b₀ out₀ h s);
  }
