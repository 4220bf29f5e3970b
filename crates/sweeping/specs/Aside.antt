-- Aside: devices of contracts between functions. Nothing here need be believed: every use of it is tied by a proof to the definitions beside it.
-- Whole lines at the start of a piece. Assumes nothing.
use Rattle.std.specs.Prelude.{◌≡◌, Bool, true, List, ◌++◌, ℕ, zero, suc, ◌+◌, ◌<◌, ◌≤◌, eqb, length, get_or, take}
use Rattle.layout.specs.Layout.{is_record}
use Rattle.lines.specs.Hex.{placed}
use Rattle.session.specs.Session.{World}
use Rattle.script.specs.Text.{lines_of}
use Rattle.auditing.specs.Line.{Audited, audit_all}

-- the lines of a text, audited
abbrev pub swept_by : List ℕ → World → List ℕ → List ℕ → Audited
swept_by rom w b text = audit_all rom w b (lines_of text)

-- a line begins at a place of a piece: at its start, and after each LF
abbrev pub begins : List ℕ → ℕ → Bool
begins piece zero = true
begins piece (suc k) = eqb (get_or piece k 0) 0x0A

-- so many bytes of a piece are whole lines: whatever follows them begins a line. They are audited, and their events stand at the start of a buffer;
-- before each of them there was room for an event
pub record Sweeps (rom : List ℕ) (w : World) (b piece out : List ℕ) (w' : World) (b' out' : List ℕ) (used written : ℕ) : Type 0 where
  pub inside : used ≤ length piece
  pub cut : (rest : List ℕ) → lines_of (take used piece ++ rest) ≡ lines_of (take used piece) ++ lines_of rest
  pub world : w' ≡ (swept_by rom w b (take used piece)).world
  pub book : b' ≡ (swept_by rom w b (take used piece)).book
  pub text : out' ≡ placed out 0 (swept_by rom w b (take used piece)).text
  pub end : written ≡ length (swept_by rom w b (take used piece)).text
  pub room : written ≤ length out
  pub whole : begins piece used ≡ true
  pub roomy : (k : ℕ) → k < used → begins piece k ≡ true → length (swept_by rom w b (take k piece)).text + 256 ≤ length out

-- no more lines are played: none ends in what is left, or there may be no room for its event
abbrev pub Stops : List ℕ → List ℕ → ℕ → ℕ → Type 0
Stops piece out used written = (k : ℕ) → used ≤ k → k < length piece → get_or piece k 0 ≡ 0x0A → length out < written + 256

-- over a record and a book of thirteen numbers as many lines are played as there is room for, and a record is left; over others none
pub record Settled (state book piece out state' : List ℕ) (used written : ℕ) : Type 0 where
  pub played : is_record state ≡ true → length book ≡ 13 → Stops piece out used written × (is_record state' ≡ true)
  pub left : (is_record state ≡ true → length book ≡ 13 → ⊥) → (used ≡ 0) × (state' ≡ state)

-- lines are played from one place of a piece to another: whatever was swept to the first is swept to the second
pub record Strides (rom piece : List ℕ) (w : World) (b out : List ℕ) (i at : ℕ) (w' : World) (b' out' : List ℕ) (i' at' : ℕ) : Type 0 where
  pub onward : i ≤ i'
  pub inside : i' ≤ length piece
  pub room : at' ≤ length out
  pub swept : (w₀ : World) (b₀ out₀ : List ℕ) → length out ≡ length out₀ → Sweeps rom w₀ b₀ piece out₀ w b out i at
      → Sweeps rom w₀ b₀ piece out₀ w' b' out' i' at'
