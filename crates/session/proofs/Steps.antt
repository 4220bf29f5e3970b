-- One step of a session, frame by frame: laws of `row_taken`, `frame_step` and `step_of`. Assumes nothing.
use mathlib.Core.Path.{◌≡◌, refl, ap, ◌∙◌}
use mathlib.Core.Bool.{true}
use mathlib.Core.List.{List, [], ◌++◌}
use Prim.Native.Nat.{ℕ, zero, suc, ◌+◌, ◌-◌, ◌*◌}
use native.Mathlib.Numerals.{add-one}
use native.Mathlib.Nat.{zero-add}
use native.Mathlib.Omega.{arith}
use lib.ListN.{length, drop, set, replicate}
use Rattle.controller.specs.declared.Controller.{Controller}
use Rattle.controller.specs.declared.Refusal.TheVariants as refusals
use Rattle.controller.specs.State.{reset_state}
use Rattle.controller.specs.Outcome.{Outcome, number_of}
use Rattle.controller.specs.Table.{lowest}
use Rattle.cartridge.specs.Calls.{read_rows, read_means, write_means}
use Rattle.cartridge.proofs.Refusals.{read_refuses}
use Rattle.capture.specs.Calls.{tick_means}
use Rattle.lines.specs.declared.line.Frame.{Frame}
use Rattle.lines.specs.declared.line.Frame.TheVariants.{Reset, Read, Write, Tick, Row, Malformed}
use Rattle.layout.specs.Layout.{is_record, decoded}
use Rattle.layout.proofs.Inverse.{Whole, encoded_record, decode_encode}
use Rattle.calls.specs.Aside.{effect, in_bytes}
use Rattle.calls.proofs.Left.{decoded_whole}
use Rattle.tiles.specs.Tiles.{Bytes}
use Rattle.session.specs.declared.answer.Answer.{Answer}
use Rattle.lines.specs.Line.{number_at, frame_of}
use Rattle.lines.specs.Hex.{placed}
use Rattle.session.specs.Answer.{answer_text, text_of}
use Rattle.session.specs.Session.{World, Step, world, step, row_taken, row_image, row_text, frame_step, step_of}
use Rattle.session.specs.Aside.{Short, Obeys, ran_in, ran_of, Printed, Saying, saying}

-- one byte of a row more
pub row_more : (line : List ℕ) (y n : ℕ) (image : List ℕ) → row_taken line y (n + 1) image ≡ set (row_taken line y n image) (128 * y + n) (number_at line (4 + 2 * n) 2)
unfolding row_taken
row_more line y n image = simp add-one

same : (c d : Controller) (ram ram' store store' image image' t t' : List ℕ) → c ≡ d → ram ≡ ram' → store ≡ store' → image ≡ image' → t ≡ t'
    → step (world c ram store image) t ≡ step (world d ram' store' image') t'
same c d ram ram' store store' image image' t t' p q r s u = cc

module _ (rom line : List ℕ) (c : Controller) (ram store image : List ℕ) where
  abbrev before : World
  before = world c ram store image

  says : (f : Frame) → f ≡ frame_of line → frame_step rom line before f ≡ step_of rom before line
  unfolding step_of
  says f e = ap (frame_step rom line before) e

  pub says_reset_lem : (s : List ℕ) → decoded s ≡ reset_state → Reset ≡ frame_of line → (t : List ℕ) → t ≡ answer_text 0 0 0 → step (world (decoded s) ram store image) t ≡ step_of rom before line
  unfolding frame_step
  says_reset_lem s p e t u = same _ _ _ _ _ _ _ _ _ _ p refl refl refl u ∙ says Reset e

  pub says_malformed : Malformed ≡ frame_of line → (t : List ℕ) → t ≡ answer_text (number_of refusals.Line) 0 0 → step before t ≡ step_of rom before line
  unfolding frame_step
  says_malformed e t u = ap (step before) u ∙ says Malformed e

  pub says_row_lem : (y : ℕ) → Row y ≡ frame_of line → (image' t : List ℕ) → image' ≡ row_image line image y → t ≡ row_text image → step (world c ram store image') t ≡ step_of rom before line
  unfolding frame_step
  says_row_lem y e image' t p u = same _ _ _ _ _ _ _ _ _ _ refl refl refl p u ∙ says (Row y) e

  pub says_read_lem : (a : ℕ) → Read a ≡ frame_of line → (s : List ℕ) (r : Answer) → Obeys 2 (read_means c rom ram a) s r ram [] → step (world (decoded s) ram store image) (text_of r) ≡ step_of rom before line
  unfolding frame_step
  says_read_lem a e s r o = same _ _ _ _ _ _ _ _ _ _ o.state o.ram refl refl o.text ∙ says (Read a) e

  pub says_write_lem : (a v : ℕ) → Write a v ≡ frame_of line → (s : List ℕ) (r : Answer) (ram' store' : List ℕ) → Obeys 0 (write_means c ram store image a v) s r ram' store' → step (world (decoded s) ram' store' image) (text_of r) ≡ step_of rom before line
  unfolding frame_step
  says_write_lem a v e s r ram' store' o = same _ _ _ _ _ _ _ _ _ _ o.state o.ram o.store refl o.text ∙ says (Write a v) e

  pub says_tick_lem : (n : ℕ) → Tick n ≡ frame_of line → (s : List ℕ) (r : Answer) (ram' : List ℕ) → Obeys 8 (tick_means c ram store n) s r ram' store → step (world (decoded s) ram' store image) (text_of r) ≡ step_of rom before line
  unfolding frame_step
  says_tick_lem n e s r ram' o = same _ _ _ _ _ _ _ _ _ _ o.state o.ram o.store refl o.text ∙ says (Tick n) e

-- the running cycles of a frame, by its answer's value
module _ (w : World) (f : Frame) (v : ℕ) where
  pub ran_reset : f ≡ Reset → ran_in f v ≡ ran_of w f
  unfolding ran_in ran_of
  ran_reset e = rw e refl

  pub ran_read : (a : ℕ) → f ≡ Read a → ran_in f v ≡ ran_of w f
  unfolding ran_in ran_of
  ran_read a e = rw e refl

  pub ran_write : (a b : ℕ) → f ≡ Write a b → ran_in f v ≡ ran_of w f
  unfolding ran_in ran_of
  ran_write a b e = rw e refl

  pub ran_tick : (n : ℕ) → f ≡ Tick n → v ≡ (tick_means w.state w.ram w.store n).value → ran_in f v ≡ ran_of w f
  unfolding ran_in ran_of
  ran_tick n e h = rw e h

  pub ran_row : (y : ℕ) → f ≡ Row y → ran_in f v ≡ ran_of w f
  unfolding ran_in ran_of
  ran_row y e = rw e refl

  pub ran_malformed : f ≡ Malformed → ran_in f v ≡ ran_of w f
  unfolding ran_in ran_of
  ran_malformed e = rw e refl

-- a read changes no state
read_keeps : (c : Controller) (rom ram : List ℕ) (a : ℕ) → (read_means c rom ram a).state ≡ c
read_keeps c rom ram a = by_number (lowest (read_rows c rom ram a)) refl
  where
    by_number : (n : ℕ) → lowest (read_rows c rom ram a) ≡ n → (read_means c rom ram a).state ≡ c
    by_number zero e = λ i. ((read_refuses c rom ram a).does e i).state
    by_number (suc k) e = λ i. ((read_refuses c rom ram a).kept k e i).state

pub read_whole : (s rom ram : List ℕ) (a : ℕ) → Bytes s → is_record s ≡ true → Whole (read_means (decoded s) rom ram a).state
read_whole s rom ram a b h = rw (read_keeps (decoded s) rom ram a) (decoded_whole s b h)

pub reset_whole : Whole reset_state
unfolding reset_state
reset_whole = record { registers = refl; taken = refl; elapsed = omega arith; started = omega arith; ended = omega arith }

-- a call over bytes: what is left is a record, and reads as the state left
pub obeys_left : (digits : ℕ) (o : Outcome) (s : List ℕ) (a : Answer) (n v : ℕ) (ram store : List ℕ) → effect n v s ram store ≡ in_bytes o → Whole o.state
    → text_of a ≡ answer_text n digits v → Short a → Obeys digits o s a ram store
obeys_left digits o s a n v ram store e w t short = record {
  is = ap is_record (λ i. (e i).state) ∙ encoded_record o.state w;
  state = ap decoded (λ i. (e i).state) ∙ decode_encode o.state w;
  ram = (λ i. (e i).ram);
  store = (λ i. (e i).store);
  text = t ∙ (λ i. answer_text (e i).number digits (e i).value);
  short = short;
}

said_alike : (w w' : World) (t t' : List ℕ) (n n' : ℕ) → w ≡ w' → t ≡ t' → n ≡ n' → ◌≡◌ {A = Saying} (record { world = w; text = t; length = n }) (record { world = w'; text = t'; length = n' })
said_alike w w' t t' n n' p q r = cc

-- some of the zeros left out
pub drop_zeros : (m n : ℕ) → drop {A = ℕ} n (replicate m 0) ≡ replicate (m - n) 0
drop_zeros zero zero = refl
drop_zeros zero (suc n) = let e : 0 ≡ 0 - suc n = omega arith in ap (λ k. replicate {A = ℕ} k 0) e
drop_zeros (suc m) zero = let e : suc m ≡ suc m - 0 = omega arith in ap (λ k. replicate {A = ℕ} k 0) e
drop_zeros (suc m) (suc n) = let e : m - n ≡ suc m - suc n = omega arith in drop_zeros m n ∙ ap (λ k. replicate {A = ℕ} k 0) e

-- a text put into eleven bytes that are 0
pub saying_is : (s : Step) (w : World) (out : List ℕ) (n : ℕ) → Printed s w (replicate 11 0) 0 out n → ◌≡◌ {A = Saying} (record { world = w; text = out; length = n }) (saying s)
unfolding placed
saying_is s w out n p =
    let t : out ≡ s.text ++ replicate (11 - length s.text) 0 =
    p.text ∙ ap (λ k. s.text ++ drop k (replicate 11 0)) (zero-add (length s.text)) ∙ ap (λ r. s.text ++ r) (drop_zeros 11 (length s.text)) in
    let l : n ≡ length s.text = p.end ∙ zero-add (length s.text) in
    said_alike _ _ _ _ _ _ p.world t l

-- the same, with the state as it is read back
pub said_back : (s t : Step) (c d : Controller) (ram store image out : List ℕ) (n : ℕ) → c ≡ d → s ≡ t → Printed s (world d ram store image) (replicate 11 0) 0 out n
    → ◌≡◌ {A = Saying} (record { world = world c ram store image; text = out; length = n }) (saying t)
said_back s t c d ram store image out n e f p = said_alike _ _ _ _ _ _ (ap (λ x. world x ram store image) e) refl refl ∙ saying_is s (world d ram store image) out n p ∙ ap saying f
