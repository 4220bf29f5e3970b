-- Aside: devices of contracts between functions. Nothing here need be believed: every use of it is tied by a proof to the definitions beside it.
-- Lines of a piece, read where they stand. Assumes nothing.
use Rattle.std.specs.Prelude.{◌≡◌, List, ℕ, ◌+◌, ◌-◌, ◌<◌, ◌≤◌, length, get_or, take, drop}
use Rattle.session.specs.Session.{World, step_of}
use Rattle.session.specs.Aside.{Printed}

-- the line that begins at a place of a piece ends at an LF, the first from there on, or at the piece's end
pub record Ends (piece : List ℕ) (from end : ℕ) : Type 0 where
  pub after : from ≤ end
  pub inside : end ≤ length piece
  pub none : (k : ℕ) → from ≤ k → k < end → get_or piece k 0 ≡ 0x0A → ⊥
  pub found : end < length piece → get_or piece end 0 ≡ 0x0A

-- lines are carried out one after the other from one place of a piece to another, each with its answer after that of the line before it
pub data Carries (rom piece : List ℕ) : World → List ℕ → ℕ → ℕ → World → List ℕ → ℕ → ℕ → Type 0 where
  stays : {w : World} {out : List ℕ} {at i : ℕ} → Carries rom piece w out at i w out at i
  goes : {w : World} {out : List ℕ} {at i : ℕ} (end : ℕ) {w' : World} {out' : List ℕ} {at' : ℕ} {w'' : World} {out'' : List ℕ} {at'' i'' : ℕ}
      → Ends piece i end → end < length piece → at + 11 ≤ length out
      → Printed (step_of rom w (take (end - i) (drop i piece))) w' out at out' at' → length out' ≡ length out
      → Carries rom piece w' out' at' (end + 1) w'' out'' at'' i'' → Carries rom piece w out at i w'' out'' at'' i''

-- the same, and that the second place is no earlier and stays inside the piece, and what is written inside the buffer
pub record Moves (rom piece : List ℕ) (w : World) (out : List ℕ) (at i : ℕ) (w' : World) (out' : List ℕ) (at' i' : ℕ) : Type 0 where
  pub onward : i ≤ i'
  pub inside : i' ≤ length piece
  pub room : at' ≤ length out
  pub lines : Carries rom piece w out at i w' out' at' i'
