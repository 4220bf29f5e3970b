-- The lines of a script, taken one by one: laws of `line_length`, `lines_of` and `accepted_of`. Assumes nothing.
use mathlib.Core.Path.{◌≡◌, sym, ap, ap₂, ◌∙◌}
use mathlib.Core.Bool.{true, false}
use mathlib.Core.List.{List, [], ◌∷◌}
use Prim.Native.Nat.{ℕ, suc, ◌+◌, ◌-◌, ◌<◌, ◌≤◌}
use native.Mathlib.Omega.{arith}
use lib.Dec.{eqb}
use native.Mathlib.Numerals.{add-one}
use lib.ListN.{length, get_or, take, drop, length-drop, drop_of_length-le}
use lib.Seq.{take_all, drop-cons}
use borrow.Author.Tests.{eq-eqb, ne_eqb}
use Rattle.laws.proofs.Bools.{either}
use Rattle.script.specs.Text.{begins, lines_of}
use Rattle.salvaging.specs.Kept.{accepted, accepted_of}
use Rattle.salvaging.specs.Aside.{line_length, lines_at}

-- ---- where a line ends

-- what a text is from byte i on
pub next : (s : List ℕ) (i : ℕ) → i < length s → drop i s ≡ get_or s i 0 ∷ drop (i + 1) s
next s i h = drop-cons s i 0 h ∙ ap (λ k. get_or s i 0 ∷ drop k s) (sym (add-one i))

pub ends_here : (s : List ℕ) (i : ℕ) → i < length s → get_or s i 0 ≡ 0x0A → line_length (drop i s) ≡ 0
unfolding line_length
ends_here s i h e = ap line_length (next s i h) ∙ simp (eq-eqb (get_or s i 0) 0x0A e)

pub ends_later : (s : List ℕ) (i : ℕ) → i < length s → (get_or s i 0 ≡ 0x0A → ⊥) → line_length (drop i s) ≡ suc (line_length (drop (i + 1) s))
unfolding line_length
ends_later s i h e = ap line_length (next s i h) ∙ simp (ne_eqb (get_or s i 0) 0x0A e)

pub ends_there : (s : List ℕ) (i : ℕ) → length s ≤ i → line_length (drop i s) ≡ 0
unfolding line_length
ends_there s i h = ap line_length (drop_of_length-le s h)

-- ---- the first line, and the lines after it

pub lines_next : (t : List ℕ) → 0 < length t → lines_of t ≡ take (line_length t) t ∷ lines_of (drop (suc (line_length t)) t)
unfolding lines_of line_length
lines_next [] h = absurd (omega arith)
lines_next (b ∷ []) h = either (eqb b 0x0A) (λ e. simp e) (λ e. simp e)
lines_next (b ∷ (c ∷ rest)) h = either (eqb b 0x0A) (λ e. simp e) (λ e. simp e (ap (begins b) (lines_next (c ∷ rest) (omega arith))))

-- as an iterator takes it: the line before the first LF and what is left past it, or all where there is none
pub line_taken : (t : List ℕ) (n : ℕ) → n ≡ line_length t → n < length t → lines_of t ≡ take n t ∷ lines_of (take (length t - (n + 1)) (drop (n + 1) t))
line_taken t n e inside =
    let all : take (length t - (n + 1)) (drop (n + 1) t) ≡ drop (n + 1) t = take_all (length t - (n + 1)) (drop (n + 1) t) (omega (arith, length-drop (n + 1) t)) in
    let past : suc n ≡ n + 1 = omega arith in
    lines_next t (omega arith)
    ∙ ap (λ (m : ℕ). take m t ∷ lines_of (drop (suc m) t)) (sym e)
    ∙ ap (λ (r : List ℕ). take n t ∷ lines_of r) (ap (λ (j : ℕ). drop j t) past ∙ sym all)

pub last_taken : (t : List ℕ) → 0 < length t → length t ≡ line_length t → lines_of t ≡ t ∷ lines_of []
last_taken t h e =
    lines_next t h
    ∙ ap (λ (m : ℕ). take m t ∷ lines_of (drop (suc m) t)) (sym e)
    ∙ ap₂ (λ (x y : List ℕ). x ∷ lines_of y) (take_all (length t) t (omega arith)) (drop_of_length-le t {i = suc (length t)} (omega arith))

-- an accepted line is the first of those that are left, and a malformed one is none of them
pub accepted_first : {lines rest : List (List ℕ)} {line : List ℕ} → lines ≡ line ∷ rest → accepted line ≡ true → accepted_of lines ≡ line ∷ accepted_of rest
unfolding accepted_of
accepted_first e t = ap accepted_of e ∙ simp t

pub accepted_later : {lines rest : List (List ℕ)} {line : List ℕ} → lines ≡ line ∷ rest → accepted line ≡ false → accepted_of lines ≡ accepted_of rest
unfolding accepted_of
accepted_later e t = ap accepted_of e ∙ simp t

pub accepted_none : {lines : List (List ℕ)} → lines ≡ [] → accepted_of lines ≡ []
unfolding accepted_of
accepted_none e = ap accepted_of e

pub accepted_few : (lines : List (List ℕ)) → length (accepted_of lines) ≤ length lines
unfolding accepted_of
accepted_few [] = omega arith
accepted_few (line ∷ lines) = either (accepted line) (λ t. simp t (omega (arith, accepted_few lines))) (λ t. simp t (omega (arith, accepted_few lines)))

-- past the end of a script there is no line
pub none_left : (s : List ℕ) (at : ℕ) → length s ≤ at → lines_at s at ≡ []
unfolding lines_of
none_left s at h = ap lines_of (drop_of_length-le s h)
