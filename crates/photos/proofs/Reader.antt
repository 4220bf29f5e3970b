-- A header read from the left: what each byte comes to, and three bytes, and two. Assumes nothing.
use mathlib.Core.Path.{◌≡◌, refl, sym, ap, ◌∙◌}
use mathlib.Core.Bool.{Bool, true, false, false≢true}
use mathlib.Core.List.{List, [], ◌∷◌}
use Prim.Native.Nat.{ℕ, zero, suc, ◌+◌, ◌<◌, ◌≤◌}
use native.Mathlib.Numerals.{add-one}
use native.Mathlib.Nat.{add-zero}
use native.Mathlib.Omega.{arith}
use lib.ListN.{length, get_or, take, drop, length-drop}
use lib.Pointwise.{pointwise}
use Rattle.std.specs.Bool.{Decides}
use Rattle.std.proofs.lemmas.Bool.Decides.{Decides-eqb}
use Rattle.std.proofs.lemmas.Slice.Eq.{starts_is}
use Rattle.std.proofs.lemmas.List.Prefix.{front_fits, at_reads, at_from_reads}
use lib.Seq.{drop-cons, drop-length}
use lib.Dec.{eqb}
use borrow.Author.Tests.{eq-eqb, ne_eqb}
use Rattle.laws.proofs.Order.{split}
use Rattle.photos.specs.Header.{is_white, is_end, parts}
use Rattle.photos.specs.Aside.{Left, left, moved, finished, reads, from, goes, is_header, Next, Given, Has, Begins}
use Rattle.photos.proofs.Bytewise.{moved_part, gap_white, gap_hash, gap_byte, gap_wrong, comment_end_lem, comment_more, moved_past, reads_more, finished_no, finished_part}
use Rattle.photos.proofs.Grammar.{lost}

-- two numbers are the same, or not
alike : {X : Type 0} (a b : ℕ) → (a ≡ b → X) → ((a ≡ b → ⊥) → X) → X
alike a b f g = split a b (λ l. g (λ e. omega arith)) (λ l. split b a (λ m. g (λ e. omega arith)) (λ m. f (omega arith)))

-- nothing is finished before the last part
unfinished : (m n : ℕ) → n < 15 → finished m (drop n parts) ≡ false
unfinished zero n h = finished_part n (omega arith) ∙ ne_eqb n 15 (λ e. omega arith)
unfinished (suc m) n h = finished_no (suc m) _ (λ e. omega arith)

module _ (text : List ℕ) where
  abbrev at : ℕ → ℕ
  at i = get_or text i 0

  -- at the end of the text
  over : (i m n : ℕ) → i ≡ length text → goes text i m n ≡ finished m (drop n parts)
  unfolding reads
  over i m n e = rw (e, drop-length text)

  pub short : (i m n : ℕ) → i ≡ length text → n < 15 → goes text i m n ≡ false
  short i m n e h = over i m n e ∙ unfinished m n h

  -- a byte more
  more : (i m n : ℕ) → i < length text → goes text i m n ≡ reads (drop (i + 1) text) (moved (at i) m (drop n parts))
  more i m n h = ap (λ (s : List ℕ). reads s (from m n)) (rw add-one (drop-cons text i 0 h)) ∙ sym (reads_more (from m n) (at i) (drop (i + 1) text))

  module _ (i n : ℕ) (h : i < length text) (k : n < 15) where
    to : (m : ℕ) (l : Left) → l ≡ moved (at i) m (drop n parts) → goes text i m n ≡ reads (drop (i + 1) text) l
    to m l e = more i m n h ∙ ap (reads (drop (i + 1) text)) (sym e)

    -- in a comment
    pub comment_over : is_end (at i) ≡ true → goes text i 2 n ≡ goes text (i + 1) 1 n
    comment_over e = to 2 (from 1 n) (comment_end_lem (at i) n k e)

    pub comment_on : is_end (at i) ≡ false → goes text i 2 n ≡ goes text (i + 1) 2 n
    comment_on e = to 2 (from 2 n) (comment_more (at i) n k e)

    -- in a gap
    pub gap_on : is_white (at i) ≡ true → goes text i 1 n ≡ goes text (i + 1) 1 n
    gap_on e = to 1 (from 1 n) (gap_white (at i) n k e)

    pub gap_comment : is_white (at i) ≡ false → at i ≡ 0x23 → goes text i 1 n ≡ goes text (i + 1) 2 n
    gap_comment e f = to 1 (from 2 n) (gap_hash (at i) n k e f)

    gap_right : is_white (at i) ≡ false → (at i ≡ 0x23 → ⊥) → at i ≡ get_or parts n 0 → goes text i 1 n ≡ goes text (i + 1) 0 (n + 1)
    gap_right e f g = to 1 (from 0 (n + 1)) (gap_byte (at i) n k e f g)

    gap_fails : is_white (at i) ≡ false → (at i ≡ 0x23 → ⊥) → (at i ≡ get_or parts n 0 → ⊥) → goes text i 1 n ≡ false
    gap_fails e f g = to 1 (from 3 n) (gap_wrong (at i) n k e f g) ∙ lost _ _

    -- before a part: a gap, one white space byte, a byte that is given
    pub gap_begins : get_or parts n 0 ≡ 0 → is_white (at i) ≡ true → goes text i 0 n ≡ goes text (i + 1) 1 (n + 1)
    gap_begins e w = to 0 (from 1 (n + 1)) (sym (moved_part (at i) n k ∙ simp (eq-eqb _ 0 e, w)))

    pub no_gap : get_or parts n 0 ≡ 0 → is_white (at i) ≡ false → goes text i 0 n ≡ false
    no_gap e w = to 0 (left 3 (drop (n + 1) parts)) (sym (moved_part (at i) n k ∙ simp (eq-eqb _ 0 e, w))) ∙ lost _ _

    white_right : get_or parts n 0 ≡ 1 → is_white (at i) ≡ true → goes text i 0 n ≡ goes text (i + 1) 0 (n + 1)
    white_right e w = to 0 (from 0 (n + 1)) (sym (moved_part (at i) n k ∙ rw e (simp w)))

    white_fails : get_or parts n 0 ≡ 1 → is_white (at i) ≡ false → goes text i 0 n ≡ false
    white_fails e w = to 0 (left 3 (drop (n + 1) parts)) (sym (moved_part (at i) n k ∙ rw e (simp w))) ∙ lost _ _

    byte_right : 2 ≤ get_or parts n 0 → at i ≡ get_or parts n 0 → goes text i 0 n ≡ goes text (i + 1) 0 (n + 1)
    byte_right c e =
        to 0 (from 0 (n + 1)) (sym (moved_part (at i) n k ∙ simp (ne_eqb (get_or parts n 0) 0 (λ z. omega arith), ne_eqb (get_or parts n 0) 1 (λ z. omega arith), eq-eqb _ _ e)))

    byte_fails : 2 ≤ get_or parts n 0 → (at i ≡ get_or parts n 0 → ⊥) → goes text i 0 n ≡ false
    byte_fails c e =
        to 0 (left 3 (drop (n + 1) parts)) (sym (moved_part (at i) n k ∙ simp (ne_eqb (get_or parts n 0) 0 (λ z. omega arith), ne_eqb (get_or parts n 0) 1 (λ z. omega arith), ne_eqb _ _ e))) ∙ lost _ _

  -- a given byte stands there, or nothing is read
  byte : {X : Type 0} (i n c : ℕ) → i ≤ length text → n < 15 → get_or parts n 0 ≡ c → 2 ≤ c
      → (goes text i 0 n ≡ false → X) → (i < length text → at i ≡ c → goes text i 0 n ≡ goes text (i + 1) 0 (n + 1) → X) → X
  byte i n c l k e two fails works =
      let big : 2 ≤ get_or parts n 0 = omega arith in
      split i (length text)
      (λ h. alike (at i) c (λ q. works h q (byte_right i n h k big (q ∙ sym e))) (λ q. fails (byte_fails i n h k big (λ z. q (z ∙ e)))))
      (λ h. fails (short i 0 n (omega arith) k))

  -- and at the end of a gap
  first : {X : Type 0} (i n c : ℕ) → Next text i → n < 15 → get_or parts n 0 ≡ c
      → (goes text i 1 n ≡ false → X) → (i < length text → at i ≡ c → goes text i 1 n ≡ goes text (i + 1) 0 (n + 1) → X) → X
  first i n c next k e fails works =
      split i (length text)
      (λ h. alike (at i) c
      (λ q. works h q (gap_right i n h k (next.plain h) (next.still h) (q ∙ sym e)))
      (λ q. fails (gap_fails i n h k (next.plain h) (next.still h) (λ z. q (z ∙ e)))))
      (λ h. fails (short i 1 n (omega (arith, next.inside)) k))

  -- three bytes that are given
  module _ (i n a b c : ℕ) (next : Next text i) (given : Given n a b c) where
    second : i + 1 + 1 ≡ i + 2
    second = omega arith

    third : i + 2 + 1 ≡ i + 3
    third = omega arith

    on_second : n + 1 + 1 ≡ n + 2
    on_second = omega arith

    on_third : n + 2 + 1 ≡ n + 3
    on_third = omega arith

    pub three_fail : (i + 3 ≤ length text → at i ≡ a → at (i + 1) ≡ b → at (i + 2) ≡ c → ⊥) → goes text i 1 n ≡ false
    three_fail fails =
        first i n a next (omega (arith, given.room)) given.first (λ z. z) (λ h e x.
        byte (i + 1) (n + 1) b (omega arith) (omega (arith, given.room)) given.second given.bytes.0 (λ z. x ∙ z) (λ h' e' x'.
        let y : goes text (i + 1) 0 (n + 1) ≡ goes text (i + 2) 0 (n + 2) = rw (second, on_second) at x' in
        byte (i + 2) (n + 2) c (omega arith) given.room given.third given.bytes.1 (λ z. x ∙ y ∙ z) (λ h'' e'' x''. absurd (fails (omega arith) e e' e''))))

    pub three_right : i + 3 ≤ length text → at i ≡ a → at (i + 1) ≡ b → at (i + 2) ≡ c → goes text i 1 n ≡ goes text (i + 3) 0 (n + 3)
    three_right l ea eb ec =
        let h : i < length text = omega arith in
        let x = gap_right i n h (omega (arith, given.room)) (next.plain h) (next.still h) (ea ∙ sym given.first) in
        let y = byte_right (i + 1) (n + 1) (omega arith) (omega (arith, given.room)) (omega (arith, given.second, given.bytes)) (eb ∙ sym given.second) in
        let z = byte_right (i + 2) (n + 2) (omega arith) given.room (omega (arith, given.third, given.bytes)) (ec ∙ sym given.third) in
        x ∙ rw (second, on_second) at y ∙ rw (third, on_third) at z

  -- the first two
  begin : is_header text ≡ goes text 0 0 0
  unfolding is_header
  begin = refl

  pub two_fail : (2 ≤ length text → at 0 ≡ 0x50 → at 1 ≡ 0x36 → ⊥) → is_header text ≡ false
  unfolding parts
  two_fail fails =
      begin
      ∙ byte 0 0 0x50 (omega arith) (omega arith) refl (omega arith) (λ z. z) (λ h e x.
      byte 1 1 0x36 (omega arith) (omega arith) refl (omega arith) (λ z. x ∙ z) (λ h' e' x'. absurd (fails (omega arith) e e')))

  pub two_right : 2 ≤ length text → at 0 ≡ 0x50 → at 1 ≡ 0x36 → is_header text ≡ goes text 2 0 2
  unfolding parts
  two_right l e f =
      begin ∙ byte_right 0 0 (omega arith) (omega arith) (omega arith) e ∙ byte_right 1 1 (omega arith) (omega arith) (omega arith) f

  -- and the last, one white space byte
  all : (i : ℕ) → i ≡ length text → goes text i 0 15 ≡ true
  unfolding parts finished
  all i e = over i 0 15 e

  too_long_lem : (i : ℕ) → i < length text → goes text i 0 15 ≡ false
  too_long_lem i h = more i 0 15 h ∙ ap (reads (drop (i + 1) text)) (sym (moved_past (at i) 0)) ∙ lost _ _

  last_is : get_or parts 14 0 ≡ 1
  unfolding parts
  last_is = refl

  pub last_right : (i : ℕ) → length text ≡ i + 1 → is_white (at i) ≡ true → goes text i 0 14 ≡ true
  last_right i e w = white_right i 14 (omega arith) (omega arith) last_is w ∙ all (i + 1) (sym e)

  pub last_white : (i : ℕ) → length text ≡ i + 1 → is_white (at i) ≡ false → goes text i 0 14 ≡ false
  last_white i e w = white_fails i 14 (omega arith) (omega arith) last_is w

  pub last_long : (i : ℕ) → i ≤ length text → (length text ≡ i + 1 → ⊥) → goes text i 0 14 ≡ false
  last_long i l fails =
      split i (length text)
      (λ h. by_white (is_white (at i)) refl h)
      (λ h. short i 0 14 (omega arith) (omega arith))
    where
      by_white : (w : Bool) → is_white (at i) ≡ w → i < length text → goes text i 0 14 ≡ false
      by_white true e h = white_right i 14 h (omega arith) last_is e ∙ too_long_lem (i + 1) (omega (arith, apart))
        where
          apart : length text ≡ i + 1 → ⊥
          apart = fails
      by_white false e h = white_fails i 14 h (omega arith) last_is e

  pub last_by : (w : Bool) (i : ℕ) → w ≡ is_white (at i) → length text ≡ i + 1 → goes text i 0 14 ≡ w
  last_by true i e l = last_right i l (sym e)
  last_by false i e l = last_white i l (sym e)

  -- whether given bytes stand at a place, as `starts_with` tells it
  stands : (i : ℕ) (bytes : List ℕ) (r : Bool) → i ≤ length text → r ≡ pointwise eqb bytes (take (length bytes) (drop i text))
      → Decides r ((i + length bytes ≤ length text) × ((k : ℕ) → k < length bytes → at (i + k) ≡ get_or bytes k 0))
  stands i bytes r inside e =
      let s = starts_is Decides-eqb (drop i text) bytes r e in (
        λ y. (omega (arith, front_fits (drop i text) bytes _ (s.0 y), length-drop i text), at_reads 0 text bytes i _ (s.0 y)),
        λ h. s.1 _ (at_from_reads 0 text bytes i h.0 h.1),
      )

  -- what two and three bytes are asked for
  pub has_by : (i : ℕ) (bytes : List ℕ) (r : Bool) → Next text i → length bytes ≡ 3 → r ≡ pointwise eqb bytes (take (length bytes) (drop i text))
      → Has text i (get_or bytes 0 0) (get_or bytes 1 0) (get_or bytes 2 0) r
  has_by i bytes r next three e =
      let s = stands i bytes r next.inside e in
      record {
        inside = λ y. rw three at (s.0 y).0;
        yes = λ y n given.
            three_right i n _ _ _ next given (rw three at (s.0 y).0) (rw add-zero at ((s.0 y).1 0 (omega arith))) ((s.0 y).1 1 (omega arith)) ((s.0 y).1 2 (omega arith));
        no = λ no n given. three_fail i n _ _ _ next given (λ l a b c. false≢true (sym no ∙ s.1 (rw three l, all_three a b c)));
      }
    where
      all_three : at i ≡ get_or bytes 0 0 → at (i + 1) ≡ get_or bytes 1 0 → at (i + 2) ≡ get_or bytes 2 0 → (k : ℕ) → k < length bytes → at (i + k) ≡ get_or bytes k 0
      all_three a b c zero h = rw add-zero a
      all_three a b c (suc zero) h = b
      all_three a b c (suc (suc zero)) h = c
      all_three a b c (suc (suc (suc k))) h = absurd (omega arith)

  pub begins_by : (r : Bool) → r ≡ pointwise eqb (0x50 ∷ 0x36 ∷ []) (take 2 text) → Begins text r
  begins_by r e =
      let s = stands 0 (0x50 ∷ 0x36 ∷ []) r (omega arith) e in
      record {
        inside = λ y. (s.0 y).0;
        yes = λ y. two_right (s.0 y).0 ((s.0 y).1 0 (omega arith)) ((s.0 y).1 1 (omega arith));
        no = λ no. two_fail (λ l a b. false≢true (sym no ∙ s.1 (l, both a b)));
      }
    where
      both : at 0 ≡ 0x50 → at 1 ≡ 0x36 → (k : ℕ) → k < 2 → at (0 + k) ≡ get_or (0x50 ∷ 0x36 ∷ []) k 0
      both a b zero h = a
      both a b (suc zero) h = b
      both a b (suc (suc k)) h = absurd (omega arith)

  -- a gap ends at the end of the text
  pub next_end : Next text (length text)
  next_end = record { inside = omega arith; plain = λ h. absurd (omega arith); still = λ h _. omega arith }

-- the three numbers
pub width_given : Given 3 0x31 0x32 0x38
unfolding parts
width_given = record { room = omega arith; first = refl; second = refl; third = refl; bytes = (omega arith, omega arith) }

pub height_given : Given 7 0x31 0x32 0x38
unfolding parts
height_given = record { room = omega arith; first = refl; second = refl; third = refl; bytes = (omega arith, omega arith) }

pub most_given : Given 11 0x32 0x35 0x35
unfolding parts
most_given = record { room = omega arith; first = refl; second = refl; third = refl; bytes = (omega arith, omega arith) }

-- and the gaps before them
pub gaps : (get_or parts 2 0 ≡ 0) × (get_or parts 6 0 ≡ 0) × (get_or parts 10 0 ≡ 0)
unfolding parts
gaps = (refl, refl, refl)
