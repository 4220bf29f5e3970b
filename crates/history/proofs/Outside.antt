-- Each RAM byte outside the picture area is the last bus write that landed there, or what it held at first. Assumes nothing.
use mathlib.Core.Path.{◌≡◌, refl, sym, ap, ◌∙◌}
use mathlib.Core.Bool.{false}
use mathlib.Core.List.{List, [], ◌∷◌}
use Prim.Native.Nat.{ℕ, zero, suc, ◌+◌, ◌^◌, ◌<◌, ◌≤◌}
use native.Mathlib.Nat.{pow-suc}
use native.Mathlib.Omega.{arith}
use lib.ListN.{length, get_or}
use lib.Pow.{pow_mono}
use Rattle.laws.proofs.Bools.{not_both}
use Rattle.laws.specs.Pick.{pick}
use Rattle.laws.specs.Bits.{bit_of}
use Rattle.laws.proofs.BitLaws.{bits_below}
use Rattle.laws.proofs.Pick.{ap_pick}
use Rattle.history.specs.History.{Call, World, fresh, leaves, after}
use Rattle.history.specs.Seen.{in_area, byte_in}
use Rattle.history.proofs.Track.{Track, at_reset, lands, next}
use Rattle.history.proofs.Since.{last_in, sent_told, last_told}
use Rattle.history.proofs.Follows.{Moment, at_reset_lem, moment_next, size_next}
use Rattle.history.proofs.Touched.{out_sends, touched_told}

-- a number is below the power of two of as many bits as it counts
below : (n : ℕ) → n < 2 ^ n
below zero = omega arith
below (suc n) = rw (pow-suc 2 n) (omega (arith, below n))

-- numbers with the same bits are the same
same_bits : (x y : ℕ) → ((b : ℕ) → bit_of x b ≡ bit_of y b) → x ≡ y
same_bits x y e =
    let px : 2 ^ x ≤ 2 ^ (x + y) = pow_mono (omega arith) in
    let py : 2 ^ y ≤ 2 ^ (x + y) = pow_mono (omega arith) in
    bits_below (x + y) x y (omega (arith, below x)) (omega (arith, below y)) (λ b _. e b)

-- outside the area the last thing sent to a bit is that bit of the last byte that landed
sent_landed : (p b : ℕ) → in_area p ≡ false → (cs : List Call) (t : Track) (first : ℕ) → last_told p b t cs (bit_of first b) ≡ bit_of (last_in p t cs first) b
unfolding last_told last_in
sent_landed p b out [] t first = refl
sent_landed p b out (k ∷ cs) t first = ap (last_told p b (next t k) cs) one ∙ sent_landed p b out cs (next t k) (pick (lands t k p) (byte_in k p) first)
  where
    one : sent_told p b t k (bit_of first b) ≡ bit_of (pick (lands t k p) (byte_in k p) first) b
    one = unfold sent_told in rw (out_sends t k p b out) (sym (ap_pick (λ (v : ℕ). bit_of v b) (lands t k p) (byte_in k p) first))

pub size_after : (cs : List Call) (t : Track) (w : World) → Moment t w → length (after w cs).ram ≡ length w.ram
unfolding after
size_after [] t w m = refl
size_after (k ∷ cs) t w m = size_after cs (next t k) (leaves w k) (moment_next t w m k) ∙ size_next t w m k

-- Outside: from reset, after any calls, each RAM byte outside the picture area is the last bus write that landed there, or what it held at first
pub outside : (ram store : List ℕ) (cs : List Call) (p : ℕ) → in_area p ≡ false
    → get_or (after (fresh ram store) cs).ram p 0 ≡ last_in p (at_reset (length ram) (length store)) cs (get_or ram p 0)
outside ram store cs p out =
    same_bits _ _
    (λ b. touched_told ram store cs p b (λ here. not_both here out) ∙ sent_landed p b out cs (at_reset (length ram) (length store)) (get_or ram p 0))

-- and the RAM has as many bytes as at first
pub same_size : (ram store : List ℕ) (cs : List Call) → length (after (fresh ram store) cs).ram ≡ length ram
same_size ram store cs = size_after cs _ _ (at_reset_lem ram store)
