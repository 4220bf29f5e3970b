-- The exported functions of an audit: what they are refused for, and what they answer and leave. Assumes nothing.
use mathlib.Core.Path.{◌≡◌, refl, sym, ap, ◌∙◌}
use mathlib.Core.Bool.{true, ◌&&◌}
use mathlib.Core.List.{List}
use Prim.Native.Nat.{ℕ, ◌%◌, ◌<◌, ◌≤◌, min}
use native.Mathlib.Nat.{zero-add}
use native.Mathlib.Omega.{arith}
use lib.Dec.{eqb, leb, ltb}
use lib.ListN.{length, set}
use lib.Seq.{take_all, length-take-le}
use borrow.Author.Tests.{eqb-true, leb-true, ltb-true}
use Rattle.laws.proofs.Bools.{both_left, both_right, not_fails}
use Rattle.laws.proofs.Order.{split}
use Rattle.laws.proofs.Pick.{pick_ind}
use Rattle.tiles.specs.Tiles.{Bytes}
use Rattle.timing.specs.Lent.{ram_allowed}
use Rattle.timing.proofs.Lent.{ram_lent}
use Rattle.controller.specs.Table.{lowest}
use Rattle.std.specs.declared.result.Result.{Result}
use Rattle.controller.specs.declared.Refusal.{Refusal}
use Rattle.std.specs.Prelude.{⊤, Ok}
use Rattle.controller.specs.Outcome.{verdict_number}
use Rattle.controller.proofs.Refusals.{Refuses, refuses, rising_from, first_fails, by_fits}
use Rattle.layout.specs.Layout.{encoded, is_record, decoded}
use Rattle.layout.proofs.Inverse.{encode_decode}
use Rattle.lines.specs.Hex.{placed}
use Rattle.session.specs.Session.{World, world}
use Rattle.answers.specs.Packed.{packed, number_in}
use Rattle.answers.proofs.Only.{Says, packed_says}
use Rattle.events.specs.Book.{noted, written, lines}
use Rattle.auditing.specs.Summary.{summary_of}
use Rattle.pieces.specs.Pieces.{Standing, line_in, piece_audited, end_audited}
use Rattle.pieces.specs.Aside.{standing}
use Rattle.wording.specs.Aside.{Put}
use Rattle.changes.specs.Changes.{ends, change_text}
use Rattle.ledger.specs.Audits.{Auditing, auditing, as_standing, fits, audit_rows, lent, audit_bytes, end_bytes, Noting, noting, said, room, same_ram, changed_rows, changed_bytes, summary_rows, summary_bytes}

-- ---- sizes

pub fits_sizes : (book line out : List ℕ) → fits book line out ≡ true → (length book ≡ 13) × (length line ≡ 261) × (512 ≤ length out)
unfolding fits
fits_sizes book line out h =
    let p = eqb (length book) 13 in
    let q = eqb (length line) 261 in
    let o = leb 512 (length out) in
    let r = both_right p (q && o) h in
    (eqb-true _ _ (both_left p (q && o) h), eqb-true _ _ (both_left q o r), leb-true 512 (length out) (both_right q o r))

pub room_sizes : (book out : List ℕ) → room book out ≡ true → (length book ≡ 13) × (512 ≤ length out)
unfolding room
room_sizes book out h =
    let p = eqb (length book) 13 in
    let o = leb 512 (length out) in
    (eqb-true _ _ (both_left p o h), leb-true 512 (length out) (both_right p o h))

pub same_sizes : (first ram : List ℕ) → same_ram first ram ≡ true → (length first ≡ length ram) × (length ram ≤ 131072)
unfolding same_ram
same_sizes first ram h =
    let p = ram_allowed (length ram) in
    let q = eqb (length first) (length ram) in
    (eqb-true _ _ (both_right p q h), omega (arith, (ram_lent (length ram) (both_left p q h)).most))

pub audit_fits : (s book line out : List ℕ) → lowest (audit_rows s book line out) ≡ 0 → (is_record s ≡ true) × (fits book line out ≡ true)
unfolding audit_rows
audit_fits s book line out e =
    let r = first_fails _ _ e in
    let n = first_fails _ _ r.1 in
    (not_fails _ r.0, not_fails _ n.0)

pub changed_fits : (book first ram out : List ℕ) → lowest (changed_rows book first ram out) ≡ 0 → (same_ram first ram ≡ true) × (room book out ≡ true)
unfolding changed_rows
changed_fits book first ram out e =
    let r = first_fails _ _ e in
    let n = first_fails _ _ r.1 in
    (not_fails _ r.0, not_fails _ n.0)

pub summary_fits : (book s out : List ℕ) → lowest (summary_rows book s out) ≡ 0 → (is_record s ≡ true) × (room book out ≡ true)
unfolding summary_rows
summary_fits book s out e =
    let r = first_fails _ _ e in
    let n = first_fails _ _ r.1 in
    (not_fails _ r.0, not_fails _ n.0)

-- ---- a piece

pub lent_most : (piece : List ℕ) → length (lent piece) ≤ 4294967295
lent_most piece =
    split 4294967295 (length piece)
    (λ h. rw (length-take-le 4294967295 piece (omega (arith, h))) (omega arith))
    (λ h. rw (take_all 4294967295 piece h) h)

pub piece_used : (rom : List ℕ) (w : World) (b line out piece : List ℕ) → (piece_audited rom w b line out piece).used ≤ length piece
unfolding piece_audited
piece_used rom w b line out piece =
    pick_ind (λ (s : Standing). s.used ≤ length piece) (ltb (length (line_in piece)) (length piece))
    (λ t. omega (arith, ltb-true (length (line_in piece)) (length piece) t))
    (λ t. omega arith)

same : (p q : ℕ) (s t ram ram' store store' image image' book book' line line' out out' : List ℕ)
    → p ≡ q → s ≡ t → ram ≡ ram' → store ≡ store' → image ≡ image' → book ≡ book' → line ≡ line' → out ≡ out'
    → auditing p s ram store image book line out ≡ auditing q t ram' store' image' book' line' out'
same p q s t ram ram' store store' image image' book book' line line' out out' a b c d e f g h = cc

abbrev pub in_auditing : Auditing → ℕ
in_auditing a = number_in a.answer

-- what is left is a standing's, with a value
pub as_standing_lem : (a : Standing) (v p : ℕ) (s ram store image book line out : List ℕ) (u : ℕ) → Bytes s → is_record s ≡ true
    → standing (world (decoded s) ram store image) book line out u ≡ a → p ≡ packed 0 v
    → auditing p s ram store image book line out ≡ as_standing v a
as_standing_lem a v p s ram store image book line out u bytes r e q =
    same _ _ _ _ _ _ _ _ _ _ _ _ _ _ _ _ q
    (sym (encode_decode s bytes r) ∙ ap (λ (x : Standing). encoded x.world.state) e)
    (ap (λ (x : Standing). x.world.ram) e)
    (ap (λ (x : Standing). x.world.store) e)
    (ap (λ (x : Standing). x.world.image) e)
    (ap (λ (x : Standing). x.book) e)
    (ap (λ (x : Standing). x.line) e)
    (ap (λ (x : Standing). x.out) e)

module _ (s rom ram store image book line out : List ℕ) where
  abbrev w : World
  w = world (decoded s) ram store image

  pub used_small : (piece : List ℕ) → (piece_audited rom w book line out (lent piece)).used < 4294967296
  used_small piece = omega (arith, piece_used rom w book line out (lent piece), lent_most piece)

  -- a piece: 1, then 7
  pub audit_refuses : (piece : List ℕ) → Refuses (audit_rows s book line out) in_auditing (λ n. auditing (packed n 0) s ram store image book line out) (audit_bytes s rom ram store image book line piece out)
      (as_standing (piece_audited rom w book line out (lent piece)).used (piece_audited rom w book line out (lent piece)))
  unfolding audit_rows audit_bytes rising_from packed
  audit_refuses piece =
      let m = used_small piece in
      refuses (audit_rows s book line out) in_auditing (λ n. auditing (packed n 0) s ram store image book line out)
      (as_standing (piece_audited rom w book line out (lent piece)).used (piece_audited rom w book line out (lent piece))) (λ n. omega arith) (omega (arith, m)) refl

  -- where it is not refused the value is how many bytes were read
  pub audit_says : (piece : List ℕ) → lowest (audit_rows s book line out) ≡ 0
      → Says (audit_bytes s rom ram store image book line piece out).answer 0 (piece_audited rom w book line out (lent piece)).used
  audit_says piece e = rw ((audit_refuses piece).does e) (packed_says _ _ (used_small piece))

  -- the end: 1, then 7
  pub end_refuses : Refuses (audit_rows s book line out) in_auditing (λ n. auditing (packed n 0) s ram store image book line out) (end_bytes s rom ram store image book line out)
      (as_standing (noted (end_audited rom w book line out).book written % 4294967296) (end_audited rom w book line out))
  unfolding audit_rows end_bytes rising_from packed
  end_refuses =
      refuses (audit_rows s book line out) in_auditing (λ n. auditing (packed n 0) s ram store image book line out)
      (as_standing (noted (end_audited rom w book line out).book written % 4294967296) (end_audited rom w book line out)) (λ n. omega arith) (omega arith) refl

  -- and of an end how many were written
  pub end_says : lowest (audit_rows s book line out) ≡ 0
      → Says (end_bytes s rom ram store image book line out).answer 0 (noted (end_audited rom w book line out).book written % 4294967296)
  end_says e = rw (end_refuses.does e) (packed_says _ _ (omega arith))

-- a piece that was read: its value is small
pub audit_small : (s' ram' store' image' book' line' out' : List ℕ) (u : ℕ) (rom : List ℕ) (w : World) (b line out taken piece : List ℕ)
    → standing (world (decoded s') ram' store' image') book' line' out' u ≡ piece_audited rom w b line out taken → taken ≡ lent piece → u < 4294967296
audit_small s' ram' store' image' book' line' out' u rom w b line out taken piece e t =
    omega (arith, ap (λ (x : Standing). x.used) e, piece_used rom w b line out taken, ap length t, lent_most piece)

module _ (s rom ram store image book line out s' ram' store' image' book' line' out' : List ℕ) (bytes : Bytes s') (r : is_record s' ≡ true)
    (v : Result ⊤ Refusal) (j : verdict_number v ≡ lowest (audit_rows s book line out)) {x : ⊤} (f : v ≡ Ok x) where
  -- a piece that was read, answered
  pub audit_done : (taken piece : List ℕ) (u p : ℕ) → standing (world (decoded s') ram' store' image') book' line' out' u ≡ piece_audited rom (world (decoded s) ram store image) book line out taken
      → taken ≡ lent piece → p ≡ packed 0 u → auditing p s' ram' store' image' book' line' out' ≡ audit_bytes s rom ram store image book line piece out
  audit_done taken piece u p e t q =
      let d = e ∙ ap (λ (l : List ℕ). piece_audited rom (world (decoded s) ram store image) book line out l) t in
      as_standing_lem _ _ p s' ram' store' image' book' line' out' u bytes r d (q ∙ ap (λ (x : Standing). packed 0 x.used) d)
      ∙ by_fits (audit_refuses s rom ram store image book line out piece) v j f

  -- an end, answered
  pub end_done : (n p : ℕ) → standing (world (decoded s') ram' store' image') book' line' out' 0 ≡ end_audited rom (world (decoded s) ram store image) book line out
      → n ≡ noted book' written → p ≡ packed 0 (n % 4294967296) → auditing p s' ram' store' image' book' line' out' ≡ end_bytes s rom ram store image book line out
  end_done n p e w q =
      as_standing_lem _ _ p s' ram' store' image' book' line' out' 0 bytes r e
      (q ∙ ap (λ n. packed 0 (n % 4294967296)) w ∙ ap (λ (x : Standing). packed 0 (noted x.book written % 4294967296)) e)
      ∙ by_fits (end_refuses s rom ram store image book line out) v j f

-- ---- changes and the summary

abbrev pub in_noting : Noting → ℕ
in_noting a = number_in a.answer

same_noting : (p q : ℕ) (book book' out out' : List ℕ) → p ≡ q → book ≡ book' → out ≡ out' → noting p book out ≡ noting q book' out'
same_noting p q book book' out out' a b c = cc

-- a text that was put, and its length noted
pub as_said : (v p n : ℕ) (book out out' text other : List ℕ) (most : ℕ) → p ≡ packed 0 v → other ≡ text → Put out 0 other most out' n
    → noting p (set book 0 n) out' ≡ said v book out text
as_said v p n book out out' text other most q f e =
    same_noting _ _ _ _ _ _ q (ap (set book 0) (e.end ∙ zero-add (length other) ∙ ap length f)) (e.text ∙ ap (placed out 0) f)

-- a stretch that changed: 3, then 7
pub changed_refuses : (book first ram : List ℕ) (from : ℕ) (out : List ℕ) → Refuses (changed_rows book first ram out) in_noting (λ n. noting (packed n 0) book out) (changed_bytes book first ram from out)
    (said (ends first ram (min from (length ram)) % 4294967296) book out (change_text (noted book lines) first ram (min from (length ram))))
unfolding changed_rows changed_bytes rising_from packed
changed_refuses book first ram from out =
    refuses (changed_rows book first ram out) in_noting (λ n. noting (packed n 0) book out)
    (said (ends first ram (min from (length ram)) % 4294967296) book out (change_text (noted book lines) first ram (min from (length ram)))) (λ n. omega arith) (omega arith) refl

-- the value is the place after it
pub changed_says : (book first ram : List ℕ) (from : ℕ) (out : List ℕ) → lowest (changed_rows book first ram out) ≡ 0
    → Says (changed_bytes book first ram from out).answer 0 (ends first ram (min from (length ram)) % 4294967296)
changed_says book first ram from out e = rw ((changed_refuses book first ram from out).does e) (packed_says _ _ (omega arith))

-- the summary: 1, then 7
pub summary_refuses : (book s out : List ℕ) → Refuses (summary_rows book s out) in_noting (λ n. noting (packed n 0) book out) (summary_bytes book s out)
    (said (length (summary_of book (decoded s).held) % 4294967296) book out (summary_of book (decoded s).held))
unfolding summary_rows summary_bytes rising_from packed
summary_refuses book s out =
    refuses (summary_rows book s out) in_noting (λ n. noting (packed n 0) book out)
    (said (length (summary_of book (decoded s).held) % 4294967296) book out (summary_of book (decoded s).held)) (λ n. omega arith) (omega arith) refl

pub summary_says : (book s out : List ℕ) → lowest (summary_rows book s out) ≡ 0
    → Says (summary_bytes book s out).answer 0 (length (summary_of book (decoded s).held) % 4294967296)
summary_says book s out e = rw ((summary_refuses book s out).does e) (packed_says _ _ (omega arith))
