-- A recording that is audited is a history: laws of `audit_all` and `calls_of`. Assumes nothing.
use mathlib.Core.Path.{◌≡◌, refl, ap, ◌∙◌}
use mathlib.Core.Bool.{true, ◌&&◌}
use mathlib.Core.List.{List, [], ◌∷◌, ◌++◌, head-eq_of_cons-eq, tail-eq_of_cons-eq}
use Prim.Native.Nat.{ℕ, ◌<◌}
use native.Mathlib.Omega.{arith}
use lib.Dec.{eqb, leb}
use lib.ListN.{length, get_or}
use borrow.Author.Tests.{eqb-true, lt-ltb}
use Rattle.laws.proofs.Bools.{both_left, both_right}
use Rattle.laws.proofs.Pick.{pick_ind}
use Rattle.history.specs.History.{Call, write, leaves, after}
use Rattle.history.specs.History.{World as Found}
use Rattle.history.specs.Seen.{writes_byte, bytes_in}
use Rattle.lines.specs.declared.line.Frame.{Frame}
use Rattle.lines.specs.declared.line.Frame.TheVariants.{Reset, Read, Write, Tick, Row, Malformed}
use Rattle.lines.specs.Line.{is_hex, worth, is_line, hex_part, number_at, spelled, frame_of}
use Rattle.lines.proofs.Digits.{worth_small}
use Rattle.session.specs.Session.{World, frame_step, step_of}
use Rattle.script.specs.Text.{played}
use Rattle.events.specs.Event.{found, call_of}
use Rattle.auditing.specs.Line.{audit_of, audit_all}
use Rattle.audited.specs.Sessions.{calls_of, Played}

-- ---- one line

frame_found : (rom line : List ℕ) (w : World) (f : Frame) → found (frame_step rom line w f).world ≡ leaves (found w) (call_of rom w.image f)
unfolding frame_step call_of leaves
frame_found rom line w Reset = refl
frame_found rom line w (Read a) = refl
frame_found rom line w (Write a v) = refl
frame_found rom line w (Tick n) = refl
frame_found rom line w (Row y) = refl
frame_found rom line w Malformed = refl

-- Line found: a line is a call
pub line_found : (rom : List ℕ) (w : World) (line : List ℕ) → found (step_of rom w line).world ≡ leaves (found w) (call_of rom w.image (frame_of line))
unfolding step_of
line_found rom w line = frame_found rom line w (frame_of line)

-- ---- lines

audit_played : (rom : List ℕ) (w : World) (b : List ℕ) (lines : List (List ℕ)) → (audit_all rom w b lines).world ≡ (played rom w lines).world
unfolding audit_all audit_of played
audit_played rom w b [] = refl
audit_played rom w b (line ∷ rest) = audit_played rom (step_of rom w line).world (audit_of rom w b line).book rest

pub audit_found : (rom : List ℕ) (w : World) (b : List ℕ) (lines : List (List ℕ)) → found (audit_all rom w b lines).world ≡ after (found w) (calls_of rom w lines)
unfolding audit_all audit_of calls_of after
audit_found rom w b [] = refl
audit_found rom w b (line ∷ rest) =
    audit_found rom (step_of rom w line).world (audit_of rom w b line).book rest
    ∙ ap (λ (x : Found). after x (calls_of rom (step_of rom w line).world rest)) (line_found rom w line)

-- Sessions: an audit of any lines, from any session and book
pub sessions : (rom : List ℕ) (w : World) (b : List ℕ) (lines : List (List ℕ)) → Played rom w b lines
sessions rom w b lines = record { same = audit_played rom w b lines; history = audit_found rom w b lines }

-- lines after lines
pub world_append : (rom : List ℕ) (xs : List (List ℕ)) (w : World) (b : List ℕ) (ys : List (List ℕ))
    → (audit_all rom w b (xs ++ ys)).world ≡ (audit_all rom (audit_all rom w b xs).world (audit_all rom w b xs).book ys).world
unfolding audit_all
world_append rom [] w b ys = refl
world_append rom (line ∷ xs) w b ys = world_append rom xs (audit_of rom w b line).world (audit_of rom w b line).book ys

pub book_append : (rom : List ℕ) (xs : List (List ℕ)) (w : World) (b : List ℕ) (ys : List (List ℕ))
    → (audit_all rom w b (xs ++ ys)).book ≡ (audit_all rom (audit_all rom w b xs).world (audit_all rom w b xs).book ys).book
unfolding audit_all
book_append rom [] w b ys = refl
book_append rom (line ∷ xs) w b ys = book_append rom xs (audit_of rom w b line).world (audit_of rom w b line).book ys

pub calls_append : (rom : List ℕ) (xs : List (List ℕ)) (w : World) (b : List ℕ) (ys : List (List ℕ))
    → calls_of rom w (xs ++ ys) ≡ calls_of rom w xs ++ calls_of rom (audit_all rom w b xs).world ys
unfolding audit_all audit_of calls_of
calls_append rom [] w b ys = refl
calls_append rom (line ∷ xs) w b ys =
    ap (λ (cs : List Call). call_of rom w.image (frame_of line) ∷ cs) (calls_append rom xs (step_of rom w line).world (audit_of rom w b line).book ys)

-- the session after one line more
pub world_more : (rom : List ℕ) (w : World) (b : List ℕ) (xs : List (List ℕ)) (line : List ℕ)
    → (audit_all rom w b (xs ++ (line ∷ []))).world ≡ (step_of rom (audit_all rom w b xs).world line).world
unfolding audit_all audit_of
world_more rom w b xs line = world_append rom xs w b (line ∷ [])

pub book_more : (rom : List ℕ) (w : World) (b : List ℕ) (xs : List (List ℕ)) (line : List ℕ)
    → (audit_all rom w b (xs ++ (line ∷ []))).book ≡ (audit_of rom (audit_all rom w b xs).world (audit_all rom w b xs).book line).book
unfolding audit_all
book_more rom w b xs line = book_append rom xs w b (line ∷ [])

-- and its calls
pub calls_more : (rom : List ℕ) (w : World) (b : List ℕ) (xs : List (List ℕ)) (line : List ℕ)
    → calls_of rom w (xs ++ (line ∷ [])) ≡ calls_of rom w xs ++ (call_of rom (audit_all rom w b xs).world.image (frame_of line) ∷ [])
unfolding calls_of
calls_more rom w b xs line = calls_append rom xs w b (line ∷ [])

-- ---- calls that split are lines that split

pub record Cut (rom : List ℕ) (w : World) (b : List ℕ) (lines : List (List ℕ)) (cs : List Call) (k : Call) (ds : List Call) : Type 0 where
  pub before : List (List ℕ)
  pub line : List ℕ
  pub since : List (List ℕ)
  pub whole : lines ≡ before ++ (line ∷ since)
  pub first : calls_of rom w before ≡ cs
  pub here : call_of rom (audit_all rom w b before).world.image (frame_of line) ≡ k
  pub rest : calls_of rom (step_of rom (audit_all rom w b before).world line).world since ≡ ds

no_call : (k : Call) (ds : List Call) → ◌≡◌ {A = List Call} [] (k ∷ ds) → ⊥
no_call k ds e = let n : ◌≡◌ {A = ℕ} 0 1 = cc in omega arith

pub cut : (rom : List ℕ) (lines : List (List ℕ)) (w : World) (b : List ℕ) (cs : List Call) (k : Call) (ds : List Call)
    → calls_of rom w lines ≡ cs ++ (k ∷ ds) → Cut rom w b lines cs k ds
unfolding calls_of audit_all audit_of
cut rom [] w b [] k ds e = absurd (no_call k ds e)
cut rom [] w b (c ∷ cs) k ds e = absurd (no_call c (cs ++ (k ∷ ds)) e)
cut rom (line ∷ rest) w b [] k ds e =
    record { before = []; line = line; since = rest; whole = refl; first = refl; here = head-eq_of_cons-eq e; rest = tail-eq_of_cons-eq e }
cut rom (line ∷ rest) w b (c ∷ cs) k ds e =
    let s = cut rom rest (step_of rom w line).world (audit_of rom w b line).book cs k ds (tail-eq_of_cons-eq e) in
    let f : call_of rom w.image (frame_of line) ≡ c = head-eq_of_cons-eq e in
    record {
      before = line ∷ s.before;
      line = s.line;
      since = s.since;
      whole = (λ i. line ∷ s.whole i);
      first = (λ i. f i ∷ s.first i);
      here = s.here;
      rest = s.rest;
    }

-- a line whose call is a write
pub write_is : (rom image : List ℕ) (f : Frame) (lent : List ℕ) (a v : ℕ) → call_of rom image f ≡ write lent a v → (f ≡ Write a v) × (image ≡ lent)
unfolding call_of
write_is rom image Reset lent a v e = absurd (let n : ◌≡◌ {A = ℕ} 0 1 = cc in omega arith)
write_is rom image (Read b) lent a v e = absurd (let n : ◌≡◌ {A = ℕ} 0 1 = cc in omega arith)
write_is rom image (Write b u) lent a v e = (cc, cc)
write_is rom image (Tick m) lent a v e = absurd (let n : ◌≡◌ {A = ℕ} 0 1 = cc in omega arith)
write_is rom image (Row y) lent a v e = absurd (let n : ◌≡◌ {A = ℕ} 0 1 = cc in omega arith)
write_is rom image Malformed lent a v e = absurd (let n : ◌≡◌ {A = ℕ} 0 1 = cc in omega arith)

-- ---- what they write are bytes

two_small : (line : List ℕ) → hex_part line 0 8 ≡ true → number_at line 6 2 < 256
unfolding hex_part number_at
two_small line h =
    let d = get_or line 7 0 in
    let c = get_or line 6 0 in
    let l : hex_part line 0 7 ≡ true = both_left (hex_part line 0 7) (is_hex d) h in
    let p : worth d < 16 = worth_small d (both_right (hex_part line 0 7) (is_hex d) h) in
    let q : worth c < 16 = worth_small c (both_right (hex_part line 0 6) (is_hex c) l) in
    omega arith

module _ (rom image line : List ℕ) where
  abbrev Fits : Frame → Type 0
  Fits f = writes_byte (call_of rom image f) ≡ true

  frame_byte : Fits (frame_of line)
  unfolding frame_of spelled call_of writes_byte
  frame_byte =
      pick_ind Fits (hex_part line 0 (length line))
      (λ hex.
      pick_ind Fits (is_line line 0 2) (λ _. refl)
      (λ _.
      pick_ind Fits (is_line line 1 6) (λ _. refl)
      (λ _.
      pick_ind Fits (is_line line 2 8)
      (λ is.
      let n : length line ≡ 8 = eqb-true (length line) 8 (both_right (eqb (number_at line 0 2) 2) (eqb (length line) 8) is) in
      lt-ltb (number_at line 6 2) 256 (two_small line (rw n at hex)))
      (λ _.
      pick_ind Fits (is_line line 3 10) (λ _. refl)
      (λ _. pick_ind Fits (is_line line 4 260 && leb (number_at line 2 2) 0x7F) (λ _. refl) (λ _. refl))))))
      (λ _. refl)

pub lines_bytes : (rom : List ℕ) (lines : List (List ℕ)) (w : World) → bytes_in (calls_of rom w lines) ≡ true
unfolding calls_of bytes_in
lines_bytes rom [] w = refl
lines_bytes rom (line ∷ rest) w = rw (frame_byte rom w.image line, lines_bytes rom rest (step_of rom w line).world)
