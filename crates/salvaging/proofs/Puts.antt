-- Lines and marks put into a buffer, one after the other: laws of `text_of` and `marks`. Assumes nothing.
use mathlib.Core.Path.{◌≡◌, refl, sym, ap, ◌∙◌}
use mathlib.Core.Bool.{Bool}
use mathlib.Core.List.{List, [], ◌∷◌, ◌++◌, map}
use Prim.Native.Nat.{ℕ, zero, suc, ◌+◌, ◌-◌, ◌<◌, ◌≤◌}
use native.Mathlib.Omega.{arith}
use lib.ListN.{length, take, set, length-append}
use Rattle.std.specs.List.{sum}
use Rattle.std.proofs.lemmas.List.Sums.{sum_by-cons}
use Rattle.lines.specs.Hex.{placed}
use Rattle.recording.specs.Record.{ended}
use Rattle.lines.proofs.Placed.{placed_one, placed_next, length_placed}
use Rattle.salvaging.specs.Kept.{accepted, text_of, kept_or, mark_of, left_after, marks}

-- ---- a byte after a text that was put

module _ (out : List ℕ) (at : ℕ) (t : List ℕ) (x k : ℕ) (fits : at + length t < length out) (here : k ≡ at + length t) where
  pub stored : set (placed out at t) k x ≡ placed out at (t ++ (x ∷ []))
  stored =
      placed_one (placed out at t) k x (rw (length_placed out at t (omega arith) (omega arith)) (omega arith))
      ∙ placed_next out at t (omega arith) (x ∷ []) k here

-- ---- the next line of a text

pub text_next : (n : ℕ) {lines rest : List (List ℕ)} {line : List ℕ} → 0 < n → lines ≡ line ∷ rest → text_of (take n lines) ≡ ended line ++ text_of (take (n - 1) rest)
unfolding text_of
text_next zero h e = absurd (omega arith)
text_next (suc n) h e =
    let p : suc n - 1 ≡ n = omega arith in
    rw (e, p)

pub ended_long : (line : List ℕ) → length (ended line) ≡ length line + 1
ended_long line = length-append line (0x0A ∷ [])

pub text_longer : (n : ℕ) {lines rest : List (List ℕ)} {line : List ℕ} → 0 < n → lines ≡ line ∷ rest
    → length (text_of (take n lines)) ≡ (length line + 1) + length (text_of (take (n - 1) rest))
text_longer n {lines} {rest} {line} h e =
    ap length (text_next n h e) ∙ length-append (ended line) (text_of (take (n - 1) rest)) ∙ ap (λ k. k + length (text_of (take (n - 1) rest))) (ended_long line)

-- how long a text is: each line, and its LF
pub summed : (lines : List (List ℕ)) → sum (map (λ l. length l + 1) lines) ≡ length (text_of lines)
unfolding text_of
summed [] = refl
summed (line ∷ lines) =
    sum_by-cons (λ x. x) (length line + 1) (map (λ l. length l + 1) lines)
    ∙ ap (λ k. (length line + 1) + k) (summed lines)
    ∙ ap (λ k. k + length (text_of lines)) (sym (ended_long line))
    ∙ sym (length-append (ended line) (text_of lines))

pub text_over : (n : ℕ) (lines : List (List ℕ)) → (0 < n → lines ≡ []) → text_of (take n lines) ≡ []
unfolding text_of
text_over zero lines e = refl
text_over (suc n) lines e = let h : lines ≡ [] = e (omega arith) in rw h

-- what is still to be put, from here and from the start, comes to the same
pub put_next : (text : List ℕ) (out : ℕ) (line rest whole : List ℕ) (out' : ℕ) → out ≤ length text → out' ≡ out + length (ended line) → whole ≡ ended line ++ rest
    → placed (placed text out (ended line)) out' rest ≡ placed text out whole
put_next text out line rest whole out' h e w = placed_next text out (ended line) h rest out' e ∙ ap (placed text out) (sym w)

-- ---- the next mark of a report

pub marks_next : (n : ℕ) {lines rest : List (List ℕ)} {line : List ℕ} {good : Bool} {m left : ℕ} → lines ≡ line ∷ rest
    → good ≡ accepted line → m ≡ mark_of good n → left ≡ left_after good n → marks n lines ≡ m ∷ marks left rest
unfolding marks
marks_next n e g p q = rw (e, p, q, g)

pub marks_none : (n : ℕ) {lines : List (List ℕ)} → lines ≡ [] → marks n lines ≡ []
unfolding marks
marks_none n e = rw e

pub mark_next : (report : List ℕ) (i m : ℕ) (rest whole : List ℕ) → i < length report → whole ≡ m ∷ rest → placed (set report i m) (i + 1) rest ≡ placed report i whole
mark_next report i m rest whole h w =
    ap (λ r. placed r (i + 1) rest) (placed_one report i m h)
    ∙ placed_next report i (m ∷ []) (omega arith) rest (i + 1) refl
    ∙ ap (placed report i) (sym w)

-- where some are still to be kept, an accepted line is
pub some_kept : (n : ℕ) → (n ≡ 0 → ⊥) → kept_or n ≡ 0
some_kept zero h = absurd (h refl)
some_kept (suc n) h = refl
