-- What a salvage keeps: accepted lines, unaltered and in order; and a second salvage changes nothing. Assumes nothing.
use mathlib.Core.Path.{◌≡◌, refl, sym, ap, ◌∙◌}
use mathlib.Core.Bool.{true, false}
use mathlib.Core.List.{List, [], ◌∷◌}
use Prim.Native.Nat.{ℕ, zero, suc, ◌+◌, ◌-◌, ◌/◌, ◌<◌, ◌≤◌}
use native.Mathlib.Omega.{arith}
use lib.Dec.{eqb}
use lib.ListN.{length, take, replicate, length-append}
use lib.Seq.{take-take, take-length, length-take-le}
use borrow.Author.Tests.{eqb-true}
use Rattle.laws.specs.Pick.{pick}
use Rattle.laws.proofs.Iter.{iter_keeps}
use Rattle.laws.proofs.Bools.{either, not_both}
use Rattle.laws.proofs.Pick.{pick_ind}
use Rattle.lines.specs.Line.{hex_part}
use Rattle.recording.specs.Record.{ended}
use Rattle.lines.proofs.Frames.{bad}
use Rattle.script.specs.Text.{begins, lines_of}
use Rattle.short.proofs.Standing.{endless}
use Rattle.script.proofs.Replayed.{line_ends}
use Rattle.salvaging.specs.Kept.{is_frame, accepted, accepted_of, doubled, halved, unrepeated, salvaged, text_of, mark_of, left_after, marks, report_of}
use Rattle.salvaging.specs.Salvage.{cleaned}
use Rattle.salvaging.proofs.Walks.{lines_next}
use Rattle.salvaging.proofs.Turns.{halves_kept, whole_kept, none_left, stays}

-- ---- a subsequence

-- lines that are others with some left out: in order, each unaltered
pub data Within : List (List ℕ) → List (List ℕ) → Type 0 where
  none : Within [] []
  kept : {a b : List (List ℕ)} (line : List ℕ) → Within a b → Within (line ∷ a) (line ∷ b)
  dropped : {a b : List (List ℕ)} (line : List ℕ) → Within a b → Within a (line ∷ b)

within_none : (lines : List (List ℕ)) → Within [] lines
within_none [] = none
within_none (line ∷ lines) = dropped line (within_none lines)

within_first : (n : ℕ) (lines : List (List ℕ)) → Within (take n lines) lines
within_first zero lines = within_none lines
within_first (suc n) [] = none
within_first (suc n) (line ∷ lines) = kept line (within_first n lines)

accepted_within : (n : ℕ) (lines : List (List ℕ)) → Within (take n (accepted_of lines)) lines
unfolding accepted_of
accepted_within zero lines = within_none lines
accepted_within (suc n) [] = none
accepted_within (suc n) (line ∷ lines) =
    either (accepted line) (λ t. simp t (kept line (accepted_within n lines))) (λ f. simp f (dropped line (accepted_within (suc n) lines)))

-- what is kept of accepted lines are the first of them
first_halved : (lines w : List (List ℕ)) → w ≡ take (length w) lines → halved w ≡ take (length (halved w)) lines
first_halved lines w e =
    either (doubled w)
    (λ t.
    let h = length w / 2 in
    let n : length (halved w) ≡ h = ap length (halves_kept w t) ∙ length-take-le h w (omega arith) in
    halves_kept w t ∙ ap (take h) e ∙ take-take h (length w) lines (omega arith) ∙ ap (λ k. take k lines) (sym n))
    (λ f. whole_kept w f ∙ e ∙ ap (λ x. take (length x) lines) (sym (whole_kept w f)))

pub first_kept : (lines : List (List ℕ)) → unrepeated lines ≡ take (length (unrepeated lines)) lines
unfolding unrepeated
first_kept lines =
    iter_keeps halved (λ w. w ≡ take (length w) lines) (first_halved lines) (length lines) lines (sym (take-length lines))

-- the kept lines are a subsequence of the accepted ones, each unaltered
pub kept_within : (lines : List (List ℕ)) → Within (salvaged lines) (accepted_of lines)
unfolding salvaged
kept_within lines =
    rw (first_kept (accepted_of lines)) (within_first (length (unrepeated (accepted_of lines))) (accepted_of lines))

-- and of the lines of the script: none is added, and none is altered
pub never_added : (lines : List (List ℕ)) → Within (salvaged lines) lines
unfolding salvaged
never_added lines = rw (first_kept (accepted_of lines)) (accepted_within (length (unrepeated (accepted_of lines))) lines)

-- ---- every line accepted

pub data Good : List (List ℕ) → Type 0 where
  nothing : Good []
  also : (line : List ℕ) {lines : List (List ℕ)} → accepted line ≡ true → Good lines → Good (line ∷ lines)

good_accepted : (lines : List (List ℕ)) → Good (accepted_of lines)
unfolding accepted_of
good_accepted [] = nothing
good_accepted (line ∷ lines) = either (accepted line) (λ t. simp t (also line t (good_accepted lines))) (λ f. simp f (good_accepted lines))

good_first : (n : ℕ) {lines : List (List ℕ)} → Good lines → Good (take n lines)
good_first zero g = nothing
good_first (suc n) nothing = nothing
good_first (suc n) (also line t g) = also line t (good_first n g)

-- every kept line is accepted
pub good_kept : (lines : List (List ℕ)) → Good (salvaged lines)
unfolding salvaged
good_kept lines =
    rw (first_kept (accepted_of lines)) (good_first (length (unrepeated (accepted_of lines))) (good_accepted lines))

good_all : {lines : List (List ℕ)} → Good lines → accepted_of lines ≡ lines
unfolding accepted_of
good_all nothing = refl
good_all (also line t g) = simp t (ap (λ r. line ∷ r) (good_all g))

-- an accepted line is all digits
digits : (line : List ℕ) → accepted line ≡ true → hex_part line 0 (length line) ≡ true
unfolding accepted
digits line t = either (hex_part line 0 (length line)) (λ h. h) (λ h. not_both t (ap is_frame (bad line h)))

-- the text made of accepted lines has exactly these lines
good_lines : {lines : List (List ℕ)} → Good lines → lines_of (text_of lines) ≡ lines
unfolding text_of lines_of
good_lines nothing = refl
good_lines (also line {lines} t g) = line_ends line (text_of lines) (endless line (digits line t)) ∙ ap (λ r. line ∷ r) (good_lines g)

-- ---- once more

-- the lines of the cleaned text are the lines that are kept
pub cleaned_lines : (script : List ℕ) → lines_of (cleaned script) ≡ salvaged (lines_of script)
unfolding cleaned
cleaned_lines script = good_lines (good_kept (lines_of script))

-- what is kept of accepted lines without a repetition is all of them
pub all_kept : {lines : List (List ℕ)} → Good lines → doubled lines ≡ false → salvaged lines ≡ lines
unfolding salvaged
all_kept {lines} g f = ap unrepeated (good_all g) ∙ stays lines f

-- none is left
pub no_repetition : (lines : List (List ℕ)) → doubled (salvaged lines) ≡ false
unfolding salvaged
no_repetition lines = none_left (accepted_of lines)

-- salvaging the result changes nothing
pub cleaned_again : (script : List ℕ) → cleaned (cleaned script) ≡ cleaned script
unfolding cleaned
cleaned_again script =
    ap (λ lines. text_of (salvaged lines)) (good_lines (good_kept (lines_of script)))
    ∙ ap text_of (all_kept (good_kept (lines_of script)) (no_repetition (lines_of script)))

good_marks : {lines : List (List ℕ)} → Good lines → marks (length lines) lines ≡ replicate (length lines) 0
unfolding marks mark_of left_after
good_marks nothing = refl
good_marks (also line {lines} t g) =
    let e : suc (length lines) - 1 ≡ length lines = omega arith in
    simp t (ap (λ r. 0 ∷ r) (ap (λ n. marks n lines) e ∙ good_marks g))

-- and reports all 0
pub report_all_kept : {lines : List (List ℕ)} → Good lines → doubled lines ≡ false → report_of lines ≡ replicate (length lines) 0
unfolding report_of
report_all_kept {lines} g f = ap (λ k. marks (length k) lines) (all_kept g f) ∙ good_marks g

pub report_again : (script : List ℕ) → report_of (lines_of (cleaned script)) ≡ replicate (length (salvaged (lines_of script))) 0
report_again script =
    ap report_of (cleaned_lines script) ∙ report_all_kept (good_kept (lines_of script)) (no_repetition (lines_of script))

-- ---- a script that needs no salvage

-- a text with an LF on its end, where it has none there
unfoldable pub with_end : List ℕ → List ℕ
with_end [] = []
with_end (b ∷ []) = pick (eqb b 0x0A) (b ∷ []) (b ∷ 0x0A ∷ [])
with_end (b ∷ (c ∷ rest)) = b ∷ with_end (c ∷ rest)

begun_text : (b : ℕ) (lines : List (List ℕ)) → 0 < length lines → text_of (begins b lines) ≡ b ∷ text_of lines
unfolding text_of
begun_text b [] h = absurd (omega arith)
begun_text b (line ∷ lines) h = refl

some_line : (t : List ℕ) → 0 < length t → 0 < length (lines_of t)
some_line t h = omega (arith, ap length (lines_next t h))

-- the lines of a text, each with its LF, are the text with an LF on its end
lines_text : (t : List ℕ) → text_of (lines_of t) ≡ with_end t
unfolding with_end lines_of text_of
lines_text [] = refl
lines_text (b ∷ []) = either (eqb b 0x0A) (λ e. simp e (ap (λ x. x ∷ []) (sym (eqb-true b 0x0A e)))) (λ e. simp e)
lines_text (b ∷ (c ∷ rest)) =
    either (eqb b 0x0A)
    (λ e. simp e (ap (λ x. x ∷ text_of (lines_of (c ∷ rest))) (sym (eqb-true b 0x0A e)) ∙ ap (λ t. b ∷ t) (lines_text (c ∷ rest))))
    (λ e. simp e (begun_text b (lines_of (c ∷ rest)) (some_line (c ∷ rest) (omega arith)) ∙ ap (λ t. b ∷ t) (lines_text (c ∷ rest))))

-- a script with no malformed line and no repetition comes back as it is, with an LF on its end
pub as_it_is : (script : List ℕ) → Good (lines_of script) → doubled (lines_of script) ≡ false → cleaned script ≡ with_end script
unfolding cleaned
as_it_is script g f = ap text_of (all_kept g f) ∙ lines_text script

-- ---- how long the result and the report are

within_text : {a b : List (List ℕ)} → Within a b → length (text_of a) ≤ length (text_of b)
unfolding text_of
within_text none = omega arith
within_text (kept {a} {b} line w) = omega (arith, length-append (ended line) (text_of a), length-append (ended line) (text_of b), within_text w)
within_text (dropped {a} {b} line w) = omega (arith, length-append (ended line) (text_of b), within_text w)

end_longer : (t : List ℕ) → length (with_end t) ≤ length t + 1
unfolding with_end
end_longer [] = omega arith
end_longer (b ∷ []) = pick_ind (λ (t : List ℕ). length t ≤ 2) (eqb b 0x0A) (λ e. omega arith) (λ e. omega arith)
end_longer (b ∷ (c ∷ rest)) = omega (arith, end_longer (c ∷ rest))

-- nothing is added but the LF of a last line
pub cleaned_long : (script : List ℕ) → length (cleaned script) ≤ length script + 1
unfolding cleaned
cleaned_long script =
    omega (arith, within_text (never_added (lines_of script)), ap length (lines_text script), end_longer script)

-- nor to the first of the accepted lines
pub text_few : (script : List ℕ) (n : ℕ) → length (text_of (take n (accepted_of (lines_of script)))) ≤ length script + 1
text_few script n =
    omega (arith, within_text (accepted_within n (lines_of script)), ap length (lines_text script), end_longer script)

-- there are no more lines than bytes
begun_lines : (b : ℕ) (lines : List (List ℕ)) → length (begins b lines) ≤ suc (length lines)
begun_lines b [] = omega arith
begun_lines b (line ∷ lines) = omega arith

pub lines_few : (t : List ℕ) → length (lines_of t) ≤ length t
unfolding lines_of
lines_few [] = omega arith
lines_few (b ∷ rest) =
    pick_ind (λ (l : List (List ℕ)). length l ≤ suc (length rest)) (eqb b 0x0A) (λ e. omega (arith, lines_few rest)) (λ e. omega (arith, begun_lines b (lines_of rest), lines_few rest))

marks_long : (n : ℕ) (lines : List (List ℕ)) → length (marks n lines) ≡ length lines
unfolding marks
marks_long n [] = refl
marks_long n (line ∷ lines) = ap suc (marks_long (left_after (accepted line) n) lines)

-- one byte for each line
pub report_long : (lines : List (List ℕ)) → length (report_of lines) ≡ length lines
unfolding report_of
report_long lines = marks_long (length (salvaged lines)) lines

-- ---- the lines that are reported as kept

-- the lines whose byte is m
unfoldable pub marked : ℕ → List (List ℕ) → List ℕ → List (List ℕ)
marked m [] bytes = []
marked m (line ∷ lines) [] = []
marked m (line ∷ lines) (b ∷ bytes) = pick (eqb b m) (line ∷ marked m lines bytes) (marked m lines bytes)

marked_kept : (n : ℕ) (lines : List (List ℕ)) → marked 0 lines (marks n lines) ≡ take n (accepted_of lines)
unfolding marked marks mark_of left_after accepted_of
marked_kept zero [] = refl
marked_kept (suc n) [] = refl
marked_kept zero (line ∷ lines) = either (accepted line) (λ t. simp t (marked_kept zero lines)) (λ f. simp f (marked_kept zero lines))
marked_kept (suc n) (line ∷ lines) =
    let e : suc n - 1 ≡ n = omega arith in
    either (accepted line)
    (λ t. simp t (ap (λ r. line ∷ r) (ap (λ k. marked 0 lines (marks k lines)) e ∙ marked_kept n lines)))
    (λ f. simp f (marked_kept (suc n) lines))

-- the lines that are reported as kept are the lines that are kept
pub report_keeps : (lines : List (List ℕ)) → marked 0 lines (report_of lines) ≡ salvaged lines
unfolding report_of salvaged
report_keeps lines = marked_kept (length (salvaged lines)) lines ∙ sym (first_kept (accepted_of lines))
