-- The exported step of a session: what it answers and leaves, and that a refusal leaves every byte. Assumes nothing.
use mathlib.Core.Path.{◌≡◌, refl, sym, ap, ◌∙◌}
use mathlib.Core.Bool.{true}
use mathlib.Core.List.{List, ◌++◌}
use Prim.Native.Nat.{ℕ, ◌≤◌}
use native.Mathlib.Nat.{zero-add}
use native.Mathlib.Omega.{arith}
use lib.Dec.{eqb}
use lib.ListN.{length, drop}
use borrow.Author.Tests.{ltb-false}
use Rattle.laws.specs.Pick.{pick}
use Rattle.laws.proofs.Bools.{either, not_fails}
use Rattle.laws.proofs.Pick.{pick_ind}
use Rattle.tiles.specs.Tiles.{Bytes}
use Rattle.timing.specs.Lent.{frame_allowed}
use Rattle.controller.specs.Table.{lowest}
use Rattle.controller.proofs.Refusals.{Refuses, refuses, rising_from, first_fails}
use Rattle.layout.specs.Layout.{encoded, is_record, decoded}
use Rattle.layout.proofs.Inverse.{encode_decode}
use Rattle.lines.specs.declared.line.Frame.{Frame}
use Rattle.lines.specs.declared.line.Frame.TheVariants.{Reset, Read, Write, Tick, Row, Malformed}
use Rattle.lines.specs.Hex.{placed}
use Rattle.lines.proofs.Placed.{length_printed}
use Rattle.session.specs.Answer.{answer_text}
use Rattle.session.specs.Session.{World, world, row_text, frame_step, step_of}
use Rattle.session.specs.Aside.{Printed}
use Rattle.answers.specs.Packed.{packed, number_in}
use Rattle.recorder.specs.Steps.{Stepped, stepped, as_stepped, step_rows, step_bytes}
use Rattle.answers.proofs.Kept.{kept}
use Rattle.answers.proofs.Only.{Says, packed_says}

-- ---- an answer has at most 11 bytes

answer_most : (number digits value : ℕ) → digits ≤ 8 → length (answer_text number digits value) ≤ 11
unfolding answer_text
answer_most number digits value h =
    rw (length_printed number (pick (eqb number 0) digits 0) value)
    (either (eqb number 0) (λ t. rw t (omega arith)) (λ f. rw f (omega arith)))

frame_most : (rom line : List ℕ) (w : World) (f : Frame) → length (frame_step rom line w f).text ≤ 11
unfolding frame_step row_text
frame_most rom line w Reset = answer_most 0 0 0 (omega arith)
frame_most rom line w (Read a) = answer_most _ 2 _ (omega arith)
frame_most rom line w (Write a v) = answer_most _ 0 _ (omega arith)
frame_most rom line w (Tick n) = answer_most _ 8 _ (omega arith)
frame_most rom line w (Row y) = pick_ind (λ (t : List ℕ). length t ≤ 11) (frame_allowed (length w.image)) (λ h. answer_most 0 0 0 (omega arith)) (λ h. answer_most 4 0 0 (omega arith))
frame_most rom line w Malformed = answer_most 6 0 0 (omega arith)

pub step_most : (rom : List ℕ) (w : World) (line : List ℕ) → length (step_of rom w line).text ≤ 11
unfolding step_of
step_most rom w line = frame_most rom line w _

-- ---- what is answered and left

same : (p q : ℕ) (s t ram ram' store store' image image' out out' : List ℕ) → p ≡ q → s ≡ t → ram ≡ ram' → store ≡ store' → image ≡ image' → out ≡ out'
    → stepped p s ram store image out ≡ stepped q t ram' store' image' out'
same p q s t ram ram' store store' image image' out out' a b c d e f = cc

abbrev pub in_stepped : Stepped → ℕ
in_stepped b = number_in b.answer

-- what is so where neither 1 nor 7 is given
pub step_fits : (s out : List ℕ) → lowest (step_rows s out) ≡ 0 → (is_record s ≡ true) × (11 ≤ length out)
unfolding step_rows
step_fits s out e =
    let r = first_fails _ _ e in
    let n = first_fails _ _ r.1 in
    (not_fails _ r.0, ltb-false (length out) 11 n.0)

module _ (s rom ram store image line out : List ℕ) where
  -- a step: 1, then 7
  pub step_refuses : Refuses (step_rows s out) in_stepped (λ n. stepped (packed n 0) s ram store image out) (step_bytes s rom ram store image line out) (as_stepped (step_of rom (world (decoded s) ram store image) line) out)
  unfolding step_rows step_bytes rising_from packed
  step_refuses =
      let m = step_most rom (world (decoded s) ram store image) line in
      refuses (step_rows s out) in_stepped (λ n. stepped (packed n 0) s ram store image out) (as_stepped (step_of rom (world (decoded s) ram store image) line) out) (λ n. omega arith) (omega arith) refl

  -- a line carried out
  pub step_done : (s' ram' store' image' out' : List ℕ) (n p : ℕ) → Bytes s' → is_record s' ≡ true
      → Printed (step_of rom (world (decoded s) ram store image) line) (world (decoded s') ram' store' image') out 0 out' n → p ≡ packed 0 n
      → stepped p s' ram' store' image' out' ≡ as_stepped (step_of rom (world (decoded s) ram store image) line) out
  unfolding placed
  step_done s' ram' store' image' out' n p b r d e =
      let t = (step_of rom (world (decoded s) ram store image) line).text in
      same _ _ _ _ _ _ _ _ _ _ _ _
      (e ∙ ap (packed 0) (d.end ∙ zero-add (length t)))
      (sym (encode_decode s' b r) ∙ ap (λ (w : World). encoded w.state) d.world)
      (ap (λ (w : World). w.ram) d.world)
      (ap (λ (w : World). w.store) d.world)
      (ap (λ (w : World). w.image) d.world)
      (d.text ∙ ap (λ k. t ++ drop k out) (zero-add (length t)))

  -- where it is not refused the value is the length of its answer
  pub step_says : lowest (step_rows s out) ≡ 0 → Says (step_bytes s rom ram store image line out).answer 0 (length (step_of rom (world (decoded s) ram store image) line).text)
  step_says e = rw (step_refuses.does e) (packed_says _ _ (omega (arith, step_most rom (world (decoded s) ram store image) line)))

  -- a refusal has value 0 and leaves every byte
  pub step_kept : (0 ≡ number_in (step_bytes s rom ram store image line out).answer → ⊥)
      → step_bytes s rom ram store image line out ≡ stepped (packed (number_in (step_bytes s rom ram store image line out).answer) 0) s ram store image out
  step_kept some = kept step_refuses (number_in (step_bytes s rom ram store image line out).answer) some refl
