-- A recording in pieces: where a line ends, what a piece leaves, and the end of the text. Assumes nothing.
use mathlib.Core.Path.{◌≡◌, refl, sym, ap, ◌∙◌}
use mathlib.Core.Bool.{Bool, true, false}
use mathlib.Core.List.{List, [], ◌∷◌, ◌++◌}
use Prim.Native.Nat.{ℕ, zero, suc, ◌+◌, ◌-◌, ◌<◌, ◌≤◌}
use native.Mathlib.Nat.{zero-add}
use native.Mathlib.Omega.{arith}
use lib.ListN.{length, take, set, length-append, length-set}
use lib.Seq.{length-take-le, get_or-set_same}
use borrow.Author.Tests.{lt-ltb, le-ltb, eq-eqb, ne_eqb}
use Rattle.laws.specs.Pick.{pick}
use Rattle.lines.specs.Hex.{placed}
use Rattle.lines.proofs.Placed.{placed_none, placed_next}
use Rattle.session.specs.Session.{World}
use Rattle.short.specs.Aside.{Ends}
use Rattle.wording.specs.Events.{held_text}
use Rattle.wording.specs.Aside.{Put}
use Rattle.controller.specs.declared.Controller.{Controller}
use Rattle.events.specs.Book.{noted, written, lines}
use Rattle.auditing.specs.Line.{audit_of}
use Rattle.pieces.specs.Pieces.{line_in, held_in, more_of, line_held, ended, kept, piece_audited, last_audited, held_said, end_audited}
use Rattle.events.specs.declared.sight.Sight.{Sight}
use Rattle.events.specs.Aside.{sight_of}
use Rattle.auditing.specs.Aside.{Audits}
use Rattle.pieces.specs.Aside.{standing, held_saying}

-- the bytes before the first LF
ends_line : (piece : List ℕ) (end : ℕ) → Ends piece 0 end → take end piece ≡ line_in piece
unfolding line_in
ends_line [] zero e = refl
ends_line [] (suc n) e = refl
ends_line (b ∷ rest) zero e = simp (eq-eqb b 0x0A (e.found (omega arith)))
ends_line (b ∷ rest) (suc n) e =
    simp (ne_eqb b 0x0A (e.none 0 (omega arith) (omega arith)))
    (ap (λ l. b ∷ l)
    (ends_line rest n (record {
      after = omega arith;
      inside = omega (arith, e.inside);
      none = λ k l h. e.none (suc k) (omega arith) (omega arith);
      found = λ h. e.found (omega arith);
    })))

module _ (rom : List ℕ) (w : World) (b line out piece : List ℕ) (end held n : ℕ) (line' : List ℕ) (e : Ends piece 0 end)
    (held_is : held ≡ held_in b) (line_is : line' ≡ placed line held (take (261 - held) (take end piece))) (n-is : n ≡ held + length (take (261 - held) (take end piece))) where
  length_in : end ≡ length (line_in piece)
  length_in = sym (length-take-le end piece e.inside) ∙ ap length (ends_line piece end e)

  line_held_lem : line' ≡ line_held b line piece
  line_held_lem = line_is ∙ (λ i. placed line (held_is i) (take (261 - held_is i) (ends_line piece end e i)))

  n_held : n ≡ held_in b + length (more_of b piece)
  n_held = n-is ∙ (λ i. held_is i + length (take (261 - held_is i) (ends_line piece end e i)))

  pub piece_ended : end < length piece → (w' : World) (b' out' : List ℕ) (at : ℕ) → Audits (audit_of rom w b (take n line')) w' out 0 b' out' at
      → (b'' : List ℕ) → b'' ≡ set (set b' 1 0) 0 at → standing w' b'' line' out' (end + 1) ≡ piece_audited rom w b line out piece
  unfolding piece_audited
  piece_ended l w' b' out' at a b'' q =
      (λ i. standing w' (q i) line' out' (end + 1)) ∙
      (λ i. standing (a.world i) (set (set (a.book i) 1 0) 0 ((a.end ∙ zero-add (length (audit_of rom w b (take n line')).text)) i)) line' (a.text i) (length_in i + 1))
      ∙ (λ i. ended (line_held_lem i) out piece (audit_of rom w b (take (n_held i) (line_held_lem i))))
      ∙ ap (λ (t : Bool). pick t (ended (line_held b line piece) out piece (audit_of rom w b (take (held_in b + length (more_of b piece)) (line_held b line piece)))) (kept w b (line_held b line piece) out piece))
      (sym (lt-ltb (length (line_in piece)) (length piece) (omega (arith, length_in))))

  pub piece_kept : length piece ≤ end → (b'' : List ℕ) → b'' ≡ set (set b 1 n) 0 0 → standing w b'' line' out end ≡ piece_audited rom w b line out piece
  unfolding piece_audited
  piece_kept l b'' q =
      let u : end ≡ length piece = omega (arith, e.inside) in
      (λ i. standing w (q i) line' out end) ∙
      (λ i. standing w (set (set b 1 (n_held i)) 0 0) (line_held_lem i) out (u i))
      ∙ ap (λ (t : Bool). pick t (ended (line_held b line piece) out piece (audit_of rom w b (take (held_in b + length (more_of b piece)) (line_held b line piece)))) (kept w b (line_held b line piece) out piece))
      (sym (le-ltb (length (line_in piece)) (length piece) (omega (arith, length_in))))

-- a last line
pub last_none : (rom : List ℕ) (w : World) (b line out : List ℕ) → held_in b ≡ 0 → Audits (last_audited rom w b line) w out 0 b out 0
unfolding last_audited
last_none rom w b line out h = simp (eq-eqb (held_in b) 0 h) (record { world = refl; book = refl; text = sym (placed_none out 0); end = refl; few = omega arith })

pub last_some : (rom : List ℕ) (w w' : World) (b line out b' out' : List ℕ) (held at : ℕ) → held ≡ held_in b → (held ≡ 0 → ⊥)
    → Audits (audit_of rom w b (take held line)) w' out 0 b' out' at → Audits (last_audited rom w b line) w' out 0 b' out' at
unfolding last_audited
last_some rom w w' b line out b' out' held at e h a =
    simp (ne_eqb (held_in b) 0 (λ z. h (e ∙ z))) (rw e at a)

-- the end of the text
pub end_is : (rom : List ℕ) (w w' : World) (b line out b' out' out'' : List ℕ) (at end : ℕ) → Audits (last_audited rom w b line) w' out 0 b' out' at
    → Put out' at (held_saying (noted b' lines) w'.state) 256 out'' end → (b'' : List ℕ) → b'' ≡ set (set b' 1 0) 0 end → standing w' b'' line out'' 0 ≡ end_audited rom w b line out
unfolding end_audited held_said
end_is rom w w' b line out b' out' out'' at end a p b'' q =
    let l = last_audited rom w b line in
    let s : held_saying (noted b' lines) w'.state ≡ held_said l = (λ i. held_saying (noted (a.book i) lines) (a.world i).state) in
    let t : out'' ≡ placed out 0 (l.text ++ held_said l) =
    p.text ∙ (λ i. placed (a.text i) at (s i)) ∙ placed_next out 0 l.text (omega arith) (held_said l) at a.end in
    let n : end ≡ length (l.text ++ held_said l) = p.end ∙ (λ i. a.end i + length (s i)) ∙ omega (arith, length-append l.text (held_said l)) in
    (λ i. standing w' (q i) line out'' 0) ∙ (λ i. standing (a.world i) (set (set (a.book i) 1 0) 0 (n i)) line (t i) 0)

-- how many bytes were written is noted
pub end_noted : (b' b'' : List ℕ) (end : ℕ) → length b' ≡ 13 → b'' ≡ set (set b' 1 0) 0 end → end ≡ noted b'' written
end_noted b' b'' end l q = sym (ap (λ (x : List ℕ). noted x written) q ∙ get_or-set_same (set b' 1 0) 0 end 0 (simp length-set (omega arith)))

-- that a capture is held, or nothing
module _ (n : ℕ) (c : Controller) (s : Sight) (e : s ≡ sight_of c) where
  pub held_said_lem : s.held ≡ true → held_text n s.serial s.elapsed ≡ held_saying n c
  held_said_lem h =
      (λ i. held_text n (e i).serial (e i).elapsed)
      ∙ ap (λ (t : Bool). pick t (held_text n c.started c.elapsed.0) []) (sym (sym (λ i. (e i).held) ∙ h))

  pub none_said : s.held ≡ false → [] ≡ held_saying n c
  none_said h = ap (λ (t : Bool). pick t (held_text n c.started c.elapsed.0) []) (sym (sym (λ i. (e i).held) ∙ h))
