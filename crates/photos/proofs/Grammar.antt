-- What the code reads is the grammar: a text is read to its end exactly when it is a header. Assumes nothing.
use mathlib.Core.Path.{◌≡◌, refl, sym, ap, ◌∙◌}
use mathlib.Core.Logic.{◌↔◌}
use mathlib.Core.Bool.{Bool, true, false, not, ◌&&◌, false≢true}
use mathlib.Core.List.{List, [], ◌∷◌, ◌++◌, append_assoc}
use Prim.Native.Nat.{ℕ, zero, suc, ◌≤◌}
use native.Mathlib.Omega.{arith}
use lib.Dec.{eqb, leb}
use borrow.Author.Tests.{eqb-true, eqb-false, eq-eqb, ne_eqb, leb-true, not-true}
use Rattle.laws.specs.Pick.{pick}
use Rattle.laws.proofs.Bools.{either, not_both, both_left, both_right}
use Rattle.photos.specs.Header.{is_white, is_end, Comment, last, more, Among, nothing, space, comment, white, Text, end, byte, gap, one, parts, Header}
use Rattle.photos.specs.Aside.{Left, left, moved, finished, reads, is_header}

-- a part that can follow a gap: a byte that is neither white space nor #
unfoldable opens : List ℕ → Bool
opens [] = false
opens (c ∷ ps) = leb 2 c && (not (is_white c) && not (eqb c 0x23))

-- each gap is followed by such a part
unfoldable good : List ℕ → Bool
good [] = true
good (c ∷ ps) = pick (eqb c 0) (opens ps) true && good ps

good_rest : (c : ℕ) (ps : List ℕ) → good (c ∷ ps) ≡ true → good ps ≡ true
unfolding good
good_rest c ps h = both_right (pick (eqb c 0) (opens ps) true) (good ps) h

good_gap : (c : ℕ) (ps : List ℕ) → eqb c 0 ≡ true → good (c ∷ ps) ≡ true → opens ps ≡ true
unfolding good
good_gap c ps e h = sym (ap (λ b. pick b (opens ps) true) e) ∙ both_left (pick (eqb c 0) (opens ps) true) (good ps) h

record Opens (c : ℕ) : Type 0 where
  byte_on : 2 ≤ c
  no_white : is_white c ≡ false
  no_hash : eqb c 0x23 ≡ false

opened : (c : ℕ) (ps : List ℕ) → opens (c ∷ ps) ≡ true → Opens c
unfolding opens
opened c ps h =
    let r = both_right (leb 2 c) (not (is_white c) && not (eqb c 0x23)) h in
    record {
      byte_on = leb-true 2 c (both_left (leb 2 c) _ h);
      no_white = not-true (is_white c) (both_left (not (is_white c)) _ r);
      no_hash = not-true (eqb c 0x23) (both_right (not (is_white c)) _ r);
    }

-- past all hope nothing is read
pub lost : (s : List ℕ) (ps : List ℕ) → reads s (left 3 ps) ≡ false
unfolding reads moved finished
lost [] ps = refl
lost (b ∷ s) [] = lost s []
lost (b ∷ s) (c ∷ ps) = lost s (c ∷ ps)

no_more : (s : List ℕ) {l : Left} (ps : List ℕ) → l ≡ left 3 ps → reads s l ≡ true → ⊥
no_more s ps e h = not_both (sym (ap (reads s) e) ∙ h) (lost s ps)

-- ---- what is read has the grammar

record AfterGap (ps s : List ℕ) : Type 0 where
  g : List ℕ
  r : List ℕ
  same : s ≡ g ++ r
  is : Among g
  text : Text ps r

record AfterComment (ps s : List ℕ) : Type 0 where
  t : List ℕ
  r : List ℕ
  same : s ≡ t ++ r
  is : Comment t
  after : AfterGap ps r

record Sound (s : List ℕ) : Type 0 where
  plain : (ps : List ℕ) → good ps ≡ true → reads s (left 0 ps) ≡ true → Text ps s
  in_gap_lem : (ps : List ℕ) → good ps ≡ true → opens ps ≡ true → reads s (left 1 ps) ≡ true → AfterGap ps s
  in_comment_lem : (ps : List ℕ) → good ps ≡ true → opens ps ≡ true → reads s (left 2 ps) ≡ true → AfterComment ps s

-- one byte more, by where the reading is
module _ (b : ℕ) (s : List ℕ) (i : Sound s) where
  plain_more : (ps : List ℕ) → good ps ≡ true → reads (b ∷ s) (left 0 ps) ≡ true → Text ps (b ∷ s)
  unfolding reads moved
  plain_more [] k h = absurd (no_more s [] refl h)
  plain_more (c ∷ ps) k h =
      either (eqb c 0)
      (λ z.
      either (is_white b)
      (λ w.
      let a = i.in_gap_lem ps (good_rest c ps k) (good_gap c ps z k) (simp (z, w) at h) in
      rw (eqb-true c 0 z, a.same) (gap (b ∷ a.g) ps a.r (white b a.g w a.is) a.text))
      (λ w. absurd (no_more s ps refl (simp (z, w) at h))))
      (λ z.
      either (eqb c 1)
      (λ o.
      either (is_white b)
      (λ w. rw (eqb-true c 1 o) (one b ps s w (i.plain ps (good_rest c ps k) (simp (z, o, w) at h))))
      (λ w. absurd (no_more s ps refl (simp (z, o, w) at h))))
      (λ o.
      either (eqb b c)
      (λ e.
      let x = eqb-false c 0 z in
      let y = eqb-false c 1 o in
      rw (eqb-true b c e) (byte c ps s (two c x y) (i.plain ps (good_rest c ps k) (simp (z, o, e) at h))))
      (λ e. absurd (no_more s ps refl (simp (z, o, e) at h)))))
    where
      two : (c : ℕ) → (c ≡ 0 → ⊥) → (c ≡ 1 → ⊥) → 2 ≤ c
      two zero x y = absurd (x refl)
      two (suc zero) x y = absurd (y refl)
      two (suc (suc c)) x y = omega arith

  gap_more : (ps : List ℕ) → good ps ≡ true → opens ps ≡ true → reads (b ∷ s) (left 1 ps) ≡ true → AfterGap ps (b ∷ s)
  unfolding reads moved
  gap_more [] k o h = absurd (no_more s [] refl h)
  gap_more (c ∷ ps) k o h =
      either (is_white b)
      (λ w.
      let a = i.in_gap_lem (c ∷ ps) k o (simp w at h) in
      record { g = b ∷ a.g; r = a.r; same = ap (λ (l : List ℕ). b ∷ l) a.same; is = space b a.g w a.is; text = a.text })
      (λ w.
      either (eqb b 0x23)
      (λ e.
      let d = i.in_comment_lem (c ∷ ps) k o (simp (w, e) at h) in
      let a = d.after in
      record {
        g = 0x23 ∷ (d.t ++ a.g);
        r = a.r;
        same = ap (λ (l : List ℕ). b ∷ l) (d.same ∙ ap (λ (l : List ℕ). d.t ++ l) a.same ∙ sym (append_assoc d.t a.g a.r)) ∙ ap (λ (n : ℕ). n ∷ ((d.t ++ a.g) ++ a.r)) (eqb-true b 0x23 e);
        is = comment d.t a.g d.is a.is;
        text = a.text;
      })
      (λ e.
      either (eqb b c)
      (λ f.
      let p = opened c ps o in
      record {
        g = [];
        r = b ∷ s;
        same = refl;
        is = nothing;
        text = rw (eqb-true b c f) (byte c ps s p.byte_on (i.plain ps (good_rest c ps k) (simp (w, e, f) at h)));
      })
      (λ f. absurd (no_more s (c ∷ ps) refl (simp (w, e, f) at h)))))

  comment_more : (ps : List ℕ) → good ps ≡ true → opens ps ≡ true → reads (b ∷ s) (left 2 ps) ≡ true → AfterComment ps (b ∷ s)
  unfolding reads moved
  comment_more [] k o h = absurd (no_more s [] refl h)
  comment_more (c ∷ ps) k o h =
      either (is_end b)
      (λ e. record { t = b ∷ []; r = s; same = refl; is = last b e; after = i.in_gap_lem (c ∷ ps) k o (simp e at h) })
      (λ e.
      let d = i.in_comment_lem (c ∷ ps) k o (simp e at h) in
      record { t = b ∷ d.t; r = d.r; same = ap (λ (l : List ℕ). b ∷ l) d.same; is = more b d.t e d.is; after = d.after })

plain_none : (ps : List ℕ) → reads [] (left 0 ps) ≡ true → Text ps []
unfolding reads finished
plain_none [] h = end
plain_none (c ∷ ps) h = absurd (false≢true h)

gap_none : (m : ℕ) (ps : List ℕ) → reads [] (left (suc m) ps) ≡ true → ⊥
unfolding reads finished
gap_none m ps h = false≢true h

sound : (s : List ℕ) → Sound s
sound [] = record {
  plain = λ ps k h. plain_none ps h;
  in_gap_lem = λ ps k o h. absurd (gap_none 0 ps h);
  in_comment_lem = λ ps k o h. absurd (gap_none 1 ps h);
}
sound (b ∷ s) = record { plain = plain_more b s (sound s); in_gap_lem = gap_more b s (sound s); in_comment_lem = comment_more b s (sound s) }

-- ---- what has the grammar is read

-- one byte, by where the reading is
module _ (b c : ℕ) (ps s : List ℕ) where
  read_end : is_end b ≡ true → reads s (left 1 (c ∷ ps)) ≡ true → reads (b ∷ s) (left 2 (c ∷ ps)) ≡ true
  unfolding reads moved
  read_end e h = simp e h

  read_inside : is_end b ≡ false → reads s (left 2 (c ∷ ps)) ≡ true → reads (b ∷ s) (left 2 (c ∷ ps)) ≡ true
  unfolding reads moved
  read_inside e h = simp e h

  read_space : is_white b ≡ true → reads s (left 1 (c ∷ ps)) ≡ true → reads (b ∷ s) (left 1 (c ∷ ps)) ≡ true
  unfolding reads moved
  read_space w h = simp w h

read_hash : (c : ℕ) (ps s : List ℕ) → reads s (left 2 (c ∷ ps)) ≡ true → reads (0x23 ∷ s) (left 1 (c ∷ ps)) ≡ true
unfolding reads moved is_white
read_hash c ps s h = h

module _ (b : ℕ) (ps s : List ℕ) where
  read_first : is_white b ≡ true → reads s (left 1 ps) ≡ true → reads (b ∷ s) (left 0 (0 ∷ ps)) ≡ true
  unfolding reads moved
  read_first w h = simp w h

  read_one : is_white b ≡ true → reads s (left 0 ps) ≡ true → reads (b ∷ s) (left 0 (1 ∷ ps)) ≡ true
  unfolding reads moved
  read_one w h = simp w h

  read_byte : 2 ≤ b → reads s (left 0 ps) ≡ true → reads (b ∷ s) (left 0 (b ∷ ps)) ≡ true
  unfolding reads moved
  read_byte l h = simp (ne_eqb b 0 (λ e. omega arith), ne_eqb b 1 (λ e. omega arith), eq-eqb b b refl) h

comment_read : {t : List ℕ} → Comment t → (c : ℕ) (ps r : List ℕ) → reads r (left 1 (c ∷ ps)) ≡ true → reads (t ++ r) (left 2 (c ∷ ps)) ≡ true
comment_read (last b e) c ps r h = read_end b c ps r e h
comment_read (more b s e d) c ps r h = read_inside b c ps (s ++ r) e (comment_read d c ps r h)

-- the part after a gap, read in the gap
opens_read : (s ps : List ℕ) → opens ps ≡ true → reads s (left 0 ps) ≡ true → reads s (left 1 ps) ≡ true
unfolding reads moved finished opens
opens_read s [] o h = absurd (false≢true o)
opens_read [] (c ∷ ps) o h = absurd (false≢true h)
opens_read (b ∷ s) (c ∷ ps) o h =
    let p = opened c ps o in
    let z : eqb c 0 ≡ false = ne_eqb c 0 (λ e. omega (arith, p.byte_on)) in
    let f : eqb c 1 ≡ false = ne_eqb c 1 (λ e. omega (arith, p.byte_on)) in
    either (eqb b c)
    (λ e.
    let q : b ≡ c = eqb-true b c e in
    simp (ap is_white q ∙ p.no_white, ap (λ (n : ℕ). eqb n 0x23) q ∙ p.no_hash, e) (simp (z, f, e) at h))
    (λ e. absurd (no_more s ps refl (simp (z, f, e) at h)))

among_read : {g : List ℕ} → Among g → (c : ℕ) (ps s : List ℕ) → reads s (left 1 (c ∷ ps)) ≡ true → reads (g ++ s) (left 1 (c ∷ ps)) ≡ true
among_read nothing c ps s h = h
among_read (space b g w a) c ps s h = read_space b c ps (g ++ s) w (among_read a c ps s h)
among_read (comment t g d a) c ps s h =
    read_hash c ps ((t ++ g) ++ s) (rw (append_assoc t g s) (comment_read d c ps (g ++ s) (among_read a c ps s h)))

gap_read : {g : List ℕ} → Among g → (ps s : List ℕ) → opens ps ≡ true → reads s (left 0 ps) ≡ true → reads (g ++ s) (left 1 ps) ≡ true
unfolding opens
gap_read m [] s o h = absurd (false≢true o)
gap_read m (c ∷ ps) s o h = among_read m c ps s (opens_read s (c ∷ ps) o h)

none_left : reads [] (left 0 []) ≡ true
unfolding reads finished
none_left = refl

complete : {ps s : List ℕ} → Text ps s → good ps ≡ true → reads s (left 0 ps) ≡ true
complete end k = none_left
complete (byte c ps s h t) k = read_byte c ps s h (complete t (good_rest c ps k))
complete (one b ps s w t) k = read_one b ps s w (complete t (good_rest 1 ps k))
complete (gap g ps s (white b a w m) t) k = read_first b ps (a ++ s) w (gap_read m ps s (good_gap 0 ps refl k) (complete t (good_rest 0 ps k)))

-- ---- headers

good_parts : good parts ≡ true
unfolding good opens parts is_white
good_parts = refl

-- a text is read to its end exactly when it is a header
pub reads_header : (s : List ℕ) → (is_header s ≡ true) ↔ Header s
unfolding is_header
reads_header s = (λ h. (sound s).plain parts good_parts h, λ t. complete t good_parts)
