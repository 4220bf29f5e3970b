-- No second answer fits: a packed answer gives back its number and its value, for each call. Assumes nothing.
use mathlib.Core.Path.{◌≡◌}
use mathlib.Core.Bool.{true}
use mathlib.Core.List.{List}
use Prim.Native.Nat.{ℕ, zero, suc, ◌≤◌, ◌+◌, ◌%◌, ◌<◌}
use lib.Dec.{eqb, ltb}
use native.Mathlib.Omega.{arith}
use Rattle.controller.specs.declared.Controller.{Controller}
use Rattle.controller.specs.State.{started}
use Rattle.tiles.specs.Tiles.{Bytes}
use Rattle.controller.specs.Outcome.{Inspection}
use Rattle.cartridge.specs.Calls.{read_means, write_means}
use Rattle.capture.specs.Calls.{tick_means}
use Rattle.controller.specs.Inspect.{inspect_means, named, inspect_rows}
use Rattle.controller.specs.Table.{lowest}
use Rattle.controller.proofs.Refusals.{judged_ind}
use Rattle.cartridge.proofs.Refusals.{read_refuses, write_refuses}
use Rattle.capture.proofs.Refusals.{tick_refuses}
use Rattle.desk.specs.Choice.{choose_means}
use Rattle.desk.proofs.Choices.{choose_refuses}
use Rattle.layout.specs.Layout.{is_record, decoded}
use borrow.Author.Tests.{ltb-true}
use Rattle.laws.specs.Iter.{iter}
use Rattle.laws.proofs.Pick.{pick_ind}
use Rattle.cartridge.specs.Bus.{registers_on, rom_read, byte_read}
use Rattle.lighting.specs.Light.{byte_at}
use Rattle.capture.specs.Capture.{Ticking, running, runs, cycle, ticks, from}
use Rattle.matrix.specs.Matrix.{first_in}
use Rattle.embed.specs.Exports.{read_bytes, write_bytes, tick_bytes, inspect_bytes, plain_in, exposure_in, choose_bytes, element_value}
use Rattle.embed.proofs.Cases.{read_done, write_done, tick_done, inspect_done, choose_done}
use Rattle.answers.proofs.Only.{Says, packed_says, small}

-- a byte that is read is a byte
byte_small : (c : Controller) (rom ram : List ℕ) (a : ℕ) → Bytes rom → Bytes ram → byte_read c rom ram a < 256
unfolding byte_read rom_read
byte_small c rom ram a hr hm =
    pick_ind (λ n. n < 256) (ltb a 0x8000)
    (λ t. pick_ind (λ n. n < 256) (ltb a 0x4000) (λ u. hr _) (λ u. hr _))
    (λ t.
    pick_ind (λ n. n < 256) (registers_on c)
    (λ u. pick_ind (λ n. n < 256) (eqb (a % 128) 0) (λ z. omega arith) (λ z. omega arith))
    (λ u. pick_ind (λ n. n < 256) (started c.registers) (λ z. omega arith) (λ z. hm _)))

-- a tick counts no more cycles than it was given
cycle_most : (lit : ℕ → ℕ → ℕ) (w : Ticking) → (cycle lit w).ran ≤ w.ran + 1
unfolding cycle runs
cycle_most lit w = pick_ind (λ (v : Ticking). v.ran ≤ w.ran + 1) (running w.state) (λ t. omega arith) (λ t. omega arith)

ticks_most : (lit : ℕ → ℕ → ℕ) (n : ℕ) (w : Ticking) → (ticks lit n w).ran ≤ w.ran + n
unfolding iter
ticks_most lit zero w = omega arith
ticks_most lit (suc n) w = omega (arith, cycle_most lit (iter (cycle lit) n w), ticks_most lit n w)

-- an element's row and column are small
named_small : (k : ℕ) → element_value (named k) < 4294967296
named_small k = pick_ind (λ (i : Inspection). element_value i < 4294967296) (ltb k 16) (λ t. omega (arith, ltb-true k 16 t)) (λ t. omega arith)

inspect_small : (c : Controller) → element_value (inspect_means c) < 4294967296
unfolding inspect_means
inspect_small c = judged_ind (λ (i : Inspection). element_value i < 4294967296) (lowest (inspect_rows c)) (λ k. omega arith) (named_small (first_in c.registers 0 16))

-- each answer says the controller's number and value
pub read_says : (s rom ram : List ℕ) (a : ℕ) → Bytes rom → Bytes ram → is_record s ≡ true
    → Says (read_bytes s rom ram a).answer (read_means (decoded s) rom ram a).number (read_means (decoded s) rom ram a).value
read_says s rom ram a hr hm h =
    rw (read_done s rom ram a h)
    (packed_says _ _ (small (read_refuses (decoded s) rom ram a) (omega (arith, byte_small (decoded s) rom ram a hr hm))))

pub write_says : (s ram store image : List ℕ) (a v : ℕ) → is_record s ≡ true
    → Says (write_bytes s ram store image a v).answer (write_means (decoded s) ram store image a v).number (write_means (decoded s) ram store image a v).value
write_says s ram store image a v h =
    rw (write_done s ram store image a v h) (packed_says _ _ (small (write_refuses (decoded s) ram store image a v) (omega arith)))

pub tick_says : (s ram store : List ℕ) (n : ℕ) → n < 4294967296 → is_record s ≡ true
    → Says (tick_bytes s ram store n).answer (tick_means (decoded s) ram store n).number (tick_means (decoded s) ram store n).value
tick_says s ram store n l h =
    rw (tick_done s ram store n h)
    (packed_says _ _ (small (tick_refuses (decoded s) ram store n) (omega (arith, ticks_most (byte_at store) n (from (decoded s) ram)))))

pub choose_says : (s : List ℕ) (light level plain exposure : ℕ) → is_record s ≡ true
    → Says (choose_bytes s light level plain exposure).answer (choose_means (decoded s) light level (plain_in plain) (exposure_in exposure)).number (choose_means (decoded s) light level (plain_in plain) (exposure_in exposure)).value
choose_says s light level plain exposure h =
    rw (choose_done s light level plain exposure h)
    (packed_says _ _ (small (choose_refuses (decoded s) light level (plain_in plain) (exposure_in exposure)) (omega arith)))

pub inspect_says : (s : List ℕ) → is_record s ≡ true → Says (inspect_bytes s) (inspect_means (decoded s)).number (element_value (inspect_means (decoded s)))
inspect_says s h = rw (inspect_done s h) (packed_says _ _ (inspect_small (decoded s)))
