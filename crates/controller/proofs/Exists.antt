-- Laws of the state records that can exist: the tests one by one. Assumes nothing.
use Rattle.std.proofs.Common.{◌≡◌, ◌<◌, true, false, not, ◌&&◌, ◌||◌, ltb, leb, get_or, leb-false}
use Rattle.laws.proofs.Bools.{neither_left, neither_right}
use Rattle.controller.specs.declared.Controller.{Controller}
use Rattle.timing.specs.Timing.{total_of}
use Rattle.controller.specs.State.{started, left_over, wrong_capture, cant_exist}

-- none of the tests by which a state can't exist
pub record Exists (c : Controller) : Type 0 where
  pub bank : ltb 63 c.bank ≡ false
  pub select : ltb 31 c.select ≡ false
  pub first : ltb 7 (get_or c.registers 0 0) ≡ false
  pub holds : (started c.registers && not c.held) ≡ false
  pub nothing : left_over c ≡ false
  pub capture : wrong_capture c ≡ false

pub exists_parts : (c : Controller) → cant_exist c ≡ false → Exists c
unfolding cant_exist
exists_parts c h =
    let b = ltb 63 c.bank in
    let s = ltb 31 c.select in
    let f = ltb 7 (get_or c.registers 0 0) in
    let o = started c.registers && not c.held in
    let l = left_over c in
    let w = wrong_capture c in
    let h₁ = neither_right b (s || (f || (o || (l || w)))) h in
    let h₂ = neither_right s (f || (o || (l || w))) h₁ in
    let h₃ = neither_right f (o || (l || w)) h₂ in
    let h₄ = neither_right o (l || w) h₃ in
    record {
      bank = neither_left b (s || (f || (o || (l || w)))) h;
      select = neither_left s (f || (o || (l || w))) h₁;
      first = neither_left f (o || (l || w)) h₂;
      holds = neither_left o (l || w) h₃;
      nothing = neither_left l w h₄;
      capture = neither_right l w h₄;
    }

pub exists_whole : (c : Controller) → Exists c → cant_exist c ≡ false
unfolding cant_exist
exists_whole c p = simp (p.bank, p.select, p.first, p.holds, p.nothing, p.capture)

-- none of those of a held capture
pub record Held (c : Controller) : Type 0 where
  pub odd : not (started c.taken) ≡ false
  pub small : ltb 7 (get_or c.taken 0 0) ≡ false
  pub going : leb (total_of c.taken) c.elapsed.0 ≡ false

pub held_parts : (c : Controller) → cant_exist c ≡ false → c.held ≡ true → Held c
unfolding wrong_capture
held_parts c e h =
    let o = not (started c.taken) in
    let s = ltb 7 (get_or c.taken 0 0) in
    let g = leb (total_of c.taken) c.elapsed.0 in
    let h₁ : (o || (s || g)) ≡ false = simp h at (exists_parts c e).capture in
    let h₂ = neither_right o (s || g) h₁ in
    record {
      odd = neither_left o (s || g) h₁;
      small = neither_left s g h₂;
      going = neither_right s g h₂;
    }

-- a held capture that can exist is below its total
pub before_total : (c : Controller) → cant_exist c ≡ false → c.held ≡ true → c.elapsed.0 < total_of c.taken
before_total c e h = leb-false _ _ (held_parts c e h).going
