-- Laws of the lengths that are allowed: whole banks, one at least, and a byte of a bank stands inside. Assumes nothing.
use mathlib.Core.Path.{◌≡◌, sym}
use mathlib.Core.Bool.{true, ◌&&◌}
use Prim.Native.Nat.{ℕ, zero, suc, ◌+◌, ◌-◌, ◌*◌, ◌/◌, ◌%◌, ◌^◌, ◌<◌, ◌≤◌}
use native.Mathlib.Nat.{mod-lt, mul-le-mul_right, div-add-mod', pow-suc}
use native.Mathlib.Omega.{arith}
use lib.Dec.{eqb, leb}
use lib.Bits.{bit_and, and_mask}
use lib.Count.{ones, ones_in, ones_step}
use borrow.Author.Tests.{eqb-true, leb-true}
use Rattle.laws.proofs.Bools.{both_left, both_right}
use Rattle.laws.proofs.Order.{split}
use Rattle.timing.specs.Lent.{banks_allowed, rom_allowed, ram_allowed, frame_allowed}

-- a number with a bit set is not 0
pub some_bit : (n : ℕ) → ones n ≡ 1 → 0 < n
unfolding ones ones_in
some_bit zero h = omega arith
some_bit (suc n) h = omega arith

-- one with no bit set is
no_bit : (m n : ℕ) → n ≤ m → ones n ≡ 0 → n ≡ 0
no_bit zero n h e = omega arith
no_bit (suc m) n h e = split n 1 (λ l. omega arith) (λ l. omega (arith, no_bit m (n / 2) (omega arith) (omega (arith, ones_step n)), ones_step n))

-- one with one bit set is a power of 2
power : (m n : ℕ) → n ≤ m → ones n ≡ 1 → (k : ℕ) × (n ≡ 2 ^ k)
power zero n h e = absurd (omega (arith, some_bit n e))
power (suc m) n h e =
    split (n % 2) 1
    (λ even.
    let p = power m (n / 2) (omega (arith, some_bit n e)) (omega (arith, ones_step n)) in
    (suc p.0, rw (pow-suc 2 p.0, sym p.1) (omega arith)))
    (λ odd. (0, omega (arith, no_bit m (n / 2) (omega (arith, some_bit n e)) (omega (arith, ones_step n)))))

-- so the bits below it are the rest by it
pub one_mask : (b n : ℕ) → ones n ≡ 1 → bit_and b (n - 1) ≡ b % n
one_mask b n e = let p = power n n (omega arith) e in rw p.1 (and_mask b p.0)

-- a length of whole banks, at least one and at most so many
pub record Banks (size most n : ℕ) : Type 0 where
  pub whole : n % size ≡ 0
  pub some : 0 < n / size
  pub few : n / size ≤ most
  pub one : ones (n / size) ≡ 1

pub banks : (size most n : ℕ) → banks_allowed size most n ≡ true → Banks size most n
unfolding banks_allowed
banks size most n h =
    let few = leb (n / size) most in
    let one = eqb (ones (n / size)) 1 in
    let rest : (few && one) ≡ true = both_right (eqb (n % size) 0) (few && one) h in
    record {
      whole = eqb-true _ _ (both_left (eqb (n % size) 0) (few && one) h);
      some = some_bit _ (eqb-true _ _ (both_right few one rest));
      few = leb-true _ _ (both_left few one rest);
      one = eqb-true _ _ (both_right few one rest);
    }

-- byte a of bank b, both taken modulo what there is, stands inside
pub inside : (size most n b a : ℕ) → 0 < size → Banks size most n → b % (n / size) * size + a % size < n
inside size most n b a pos h =
    omega
    (arith, mod-lt a pos, mul-le-mul_right size (mod-lt b h.some), div-add-mod' n size, h.whole)

-- from one bank to the most, and nothing beside them
pub record Sized (size count n : ℕ) : Type 0 where
  pub least : size ≤ n
  pub most : n ≤ count * size
  pub whole : n % size ≡ 0

pub sized : (size most n : ℕ) → Banks size most n → Sized size most n
sized size most n h =
    omega (arith, div-add-mod' n size, mul-le-mul_right size h.some, mul-le-mul_right size h.few, h.whole)

pub ram_lent : (n : ℕ) → ram_allowed n ≡ true → Sized 8192 16 n
ram_lent n h = sized 8192 16 n (banks 8192 16 n h)

pub rom_lent : (n : ℕ) → rom_allowed n ≡ true → Sized 16384 64 n
rom_lent n h = sized 16384 64 n (banks 16384 64 n h)

pub ram_inside : (n b a : ℕ) → ram_allowed n ≡ true → b % (n / 8192) * 8192 + a % 8192 < n
ram_inside n b a h = inside 8192 16 n b a (omega arith) (banks 8192 16 n h)

pub rom_inside : (n b a : ℕ) → rom_allowed n ≡ true → b % (n / 16384) * 16384 + a % 16384 < n
rom_inside n b a h = inside 16384 64 n b a (omega arith) (banks 16384 64 n h)

-- a frame's
pub frame_lent : (n : ℕ) → frame_allowed n ≡ true → n ≡ 16384
frame_lent n h = eqb-true n 16384 h
