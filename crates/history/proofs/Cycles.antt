-- A capture takes exactly its cycles, whatever stops, resumes and writes fall between. Assumes nothing.
use mathlib.Core.Path.{◌≡◌, ◌∙◌}
use mathlib.Core.List.{List, [], ◌∷◌, ◌++◌}
use Prim.Native.Nat.{ℕ, ◌+◌, ◌<◌}
use native.Mathlib.Nat.{add-zero}
use Rattle.timing.specs.Timing.{total_of}
use Rattle.history.specs.History.{Call, World, fresh, answers, count_in, after, counted}
use Rattle.history.proofs.Track.{runs_in, registers_at, told}
use Rattle.history.proofs.Since.{Held, Whole}
use Rattle.history.proofs.Follows.{count_next, cycles_left}
use Rattle.history.proofs.Goes.{end_count, counted_append, moment_now, on, now_last, world_last, moment_last}

-- the count of one call
one_count : (w : World) (k : Call) → counted w (k ∷ []) ≡ count_in (answers w k)
unfolding counted
one_count w k = add-zero (count_in (answers w k))

-- Cycles: any calls, a start, any calls with no reset up to and with the one in which that capture reaches its end: the counts returned
-- since the start add up to exactly 32,446, and 512 if bit N was clear, and 16 × exposure, by the registers at the start
pub cycles : (ram store : List ℕ) (before : List Call) (start : Call) (between : List Call) (last : Call)
    → Whole (told ram store before) start between last
    → counted (after (fresh ram store) before) (start ∷ (between ++ (last ∷ []))) ≡ total_of (registers_at (told ram store before) start)
unfolding after
cycles ram store before start between last h =
    let t = now_last ram store before start between last h in
    let w = world_last ram store before start between last h in
    let m = moment_last ram store before start between last h in
    let o = on ram store before start between h.held in
    let begin : World = after (fresh ram store) before in
    let e : t.capture.ran + runs_in t last ≡ total_of t.capture.taken = (end_count t last h.over).1 in
    let all : counted begin ((start ∷ between) ++ (last ∷ [])) ≡ counted begin (start ∷ between) + counted w (last ∷ []) = counted_append (start ∷ between) (last ∷ []) begin in
    all ∙ rw (one_count w last, count_next t w m last, ← o.ran, e, o.taken)

-- Until then the counts stay below that
pub cycles_below : (ram store : List ℕ) (before : List Call) (start : Call) (between : List Call)
    → Held (told ram store before) start between
    → counted (after (fresh ram store) before) (start ∷ between) < total_of (registers_at (told ram store before) start)
cycles_below ram store before start between held =
    let o = on ram store before start between held in
    rw (← o.ran, ← o.taken) (cycles_left _ _ (moment_now ram store before start between held) o.held)
