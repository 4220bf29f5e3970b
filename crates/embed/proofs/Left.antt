-- What a call leaves as bytes is a record and reads back as what it left; so a tick that is broken off and picked up from the bytes is
-- the tick at once. Assumes nothing.
use mathlib.Core.Path.{◌≡◌, refl, ap, ◌∙◌}
use mathlib.Core.Bool.{Bool, true}
use mathlib.Core.List.{List}
use Prim.Native.Nat.{ℕ, zero, suc, ◌+◌, ◌<◌}
use native.Mathlib.Omega.{arith}
use Rattle.controller.specs.declared.Controller.{Controller}
use Rattle.tiles.specs.Tiles.{Bytes}
use Rattle.cartridge.specs.Calls.{write_means}
use Rattle.capture.specs.Calls.{tick_means}
use Rattle.controller.specs.Table.{lowest}
use Rattle.std.specs.declared.option.Option.{Option}
use Rattle.desk.specs.Choice.{choose_means, with_registers, choose_rows}
use Rattle.desk.proofs.Choices.{choose_refuses}
use Rattle.layout.specs.Layout.{encoded, is_record, decoded}
use Rattle.answers.specs.Packed.{packed}
use Rattle.layout.proofs.Inverse.{Whole, encoded_record, decode_encode}
use Rattle.capture.proofs.TickSum.{again, after, tick_sum}
use Rattle.desk.proofs.Level.{chosen_length}
use Rattle.calls.proofs.Left.{decoded_whole, same_sizes, write_whole, tick_whole}
use Rattle.answers.specs.Called.{Called, as_bytes}
use Rattle.embed.specs.Exports.{write_bytes, tick_bytes, plain_in, exposure_in, choose_bytes}
use Rattle.embed.proofs.Cases.{write_done, tick_done, choose_done}

-- ---- the bytes that a call leaves

-- they are a record, and read back as the state left
pub record Reads (s : List ℕ) (c : Controller) : Type 0 where
  pub is : is_record s ≡ true
  pub back : decoded s ≡ c

reads : (c : Controller) → Whole c → Reads (encoded c) c
reads c w = record { is = encoded_record c w; back = decode_encode c w }

-- a tick that is broken off: the first part, and the second from what it left
pub record Resumed (whole first second : Called) : Type 0 where
  pub state : whole.state ≡ second.state
  pub ram : whole.ram ≡ second.ram
  pub store : whole.store ≡ second.store
  -- where the first part is not refused, the counts add up
  pub answer : first.answer < 4294967296 → whole.answer ≡ first.answer + second.answer

add_up : (n v m w : ℕ) → packed n v < 4294967296 → packed m (v + w) ≡ packed n v + packed m w
unfolding packed
add_up n v m w h = omega arith

module _ (s ram store : List ℕ) (bytes : Bytes s) (h : is_record s ≡ true) where
  whole : Whole (decoded s)
  whole = decoded_whole s bytes h

  pub write_left : (image : List ℕ) (a v : ℕ) → Reads (write_bytes s ram store image a v).state (write_means (decoded s) ram store image a v).state
  write_left image a v = rw (write_done s ram store image a v h) (reads _ (write_whole s ram store bytes h image a v))

  pub tick_left : (n : ℕ) → Reads (tick_bytes s ram store n).state (tick_means (decoded s) ram store n).state
  tick_left n = rw (tick_done s ram store n h) (reads _ (tick_whole s ram store bytes h n))

  choose_whole : (light level : ℕ) (plain : Bool) (exposure : Option ℕ) → Whole (choose_means (decoded s) light level plain exposure).state
  unfolding with_registers
  choose_whole light level plain exposure = by_number (lowest (choose_rows (decoded s) light level)) refl
    where
      by_number : (k : ℕ) → lowest (choose_rows (decoded s) light level) ≡ k → Whole (choose_means (decoded s) light level plain exposure).state
      by_number zero e = rw ((choose_refuses (decoded s) light level plain exposure).does e) (same_sizes (decoded s) _ whole (chosen_length light level plain exposure (decoded s).registers) refl refl refl refl)
      by_number (suc k) e = rw ((choose_refuses (decoded s) light level plain exposure).kept k e) whole

  pub choose_left : (light level plain exposure : ℕ) → Reads (choose_bytes s light level plain exposure).state (choose_means (decoded s) light level (plain_in plain) (exposure_in exposure)).state
  choose_left light level plain exposure = rw (choose_done s light level plain exposure h) (reads _ (choose_whole light level (plain_in plain) (exposure_in exposure)))

  pub tick_resumed : (a b : ℕ) → Resumed (tick_bytes s ram store (a + b)) (tick_bytes s ram store a) (tick_bytes (tick_bytes s ram store a).state (tick_bytes s ram store a).ram (tick_bytes s ram store a).store b)
  tick_resumed a b =
      let o = tick_means (decoded s) ram store a in
      let w : Whole o.state = tick_whole s ram store bytes h a in
      let second : tick_bytes (encoded o.state) o.ram o.store b ≡ as_bytes (again o b) =
      tick_done _ _ _ b (encoded_record _ w) ∙ ap (λ x. as_bytes (tick_means x o.ram o.store b)) (decode_encode _ w) in
      let all : tick_bytes s ram store (a + b) ≡ as_bytes (after o (again o b)) =
      tick_done s ram store (a + b) h ∙ ap as_bytes (tick_sum (decoded s) ram store a b) in
      rw (tick_done s ram store a h, second, all)
      (record { state = refl; ram = refl; store = refl; answer = add_up _ _ _ _ })
