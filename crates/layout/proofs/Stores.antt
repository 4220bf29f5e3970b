-- A record's bytes stored one part after the other. Assumes nothing.
use Rattle.std.proofs.Common.{◌≡◌, ℕ, ◌+◌, ◌-◌, ◌≤◌, Bool, true, false, List, ◌++◌, length, drop, sym, ap, ◌∙◌, refl, arith, append_assoc}
use mathlib.Core.List.{append-nil}
use lib.ListN.{length-append, length-drop, drop_of_length-le}
use lib.Seq.{take_at, drop_at, drop-drop}
use mir.Val.{bool_byte}
use borrow.Rule.Slice.PartMut.{put_mid}
use Rattle.layout.specs.Layout.{flag}

-- a bool as the machine casts it
pub as_flag : (t : Bool) → bool_byte t ≡ flag t
as_flag true = refl
as_flag false = refl

-- a part stored behind those that are
put_next : (front part s : List ℕ) (a k : ℕ) → length front ≡ a → put_mid a k (front ++ drop a s) part ≡ (front ++ part) ++ drop (a + k) s
put_next front part s a k l =
    (λ i. take_at front (drop a s) a l i ++ (part ++ (ap (drop k) (drop_at front (drop a s) a l) ∙ drop-drop k a s) i))
    ∙ sym (append_assoc front part (drop (a + k) s))

module _ (s f e m n r t : List ℕ) (ls : length s ≡ 121) (lf : length f ≡ 5) (le : length e ≡ 4) (lm : length m ≡ 2) (ln : length n ≡ 2) (lr : length r ≡ 54) where
  -- all parts but the last
  abbrev pub parts : List ℕ
  parts = put_mid 13 54 (put_mid 11 2 (put_mid 9 2 (put_mid 5 4 (f ++ drop 5 s) e) m) n) r

  pub stored : put_mid 67 (length parts - 67) parts t ≡ ((((f ++ e) ++ m) ++ n) ++ r) ++ t
  stored =
      let p = put_next f e s 5 4 lf in
      let q = ap (λ (x : List ℕ). put_mid 9 2 x m) p ∙ put_next (f ++ e) m s 9 2 (simp length-append (omega arith)) in
      let u = ap (λ (x : List ℕ). put_mid 11 2 x n) q ∙ put_next ((f ++ e) ++ m) n s 11 2 (simp length-append (omega arith)) in
      let v = ap (λ (x : List ℕ). put_mid 13 54 x r) u ∙ put_next (((f ++ e) ++ m) ++ n) r s 13 54 (simp length-append (omega arith)) in
      let all = (((f ++ e) ++ m) ++ n) ++ r in
      let k = length (all ++ drop 67 s) - 67 in
      let past : length s ≤ 67 + k = simp (length-append, length-drop) (omega arith) in
      ap (λ (x : List ℕ). put_mid 67 (length x - 67) x t) v
      ∙ put_next all t s 67 k (simp length-append (omega arith))
      ∙ ap (λ (x : List ℕ). (all ++ t) ++ x) (drop_of_length-le s past)
      ∙ append-nil (all ++ t)
