-- Laws of a range of the picture's pixels, of one lit and the registers taken. Assumes nothing.
use mathlib.Core.Path.{◌≡◌, refl, sym, ap, ◌∙◌}
use mathlib.Core.List.{List}
use Prim.Native.Nat.{ℕ, zero, suc, ◌+◌, ◌≤◌}
use native.Mathlib.Numerals.{add-one}
use native.Mathlib.Omega.{arith}
use lib.ListN.{length, length-set}
use borrow.Author.Tests.{le-leb, lt-leb}
use Rattle.laws.proofs.Order.{split}
use Rattle.tiles.specs.Tiles.{put_at}
use Rattle.tiles.specs.Aside.{put_nth, pixels}

pub put_length : (ram : List ℕ) (x y shade : ℕ) → length (put_at ram x y shade) ≡ length ram
unfolding put_at
put_length ram x y shade = simp length-set

module _ (lit : ℕ → ℕ → ℕ) (regs : List ℕ) where
  pub pixels_none : (from : ℕ) (ram : List ℕ) → pixels lit regs from from ram ≡ ram
  unfolding pixels
  pixels_none zero ram = refl
  pixels_none (suc j) ram = simp (lt-leb (suc j) j (omega arith))

  pub pixels_suc : (from j : ℕ) (ram : List ℕ) → from ≤ j → pixels lit regs from (suc j) ram ≡ put_nth lit regs j (pixels lit regs from j ram)
  unfolding pixels
  pixels_suc from j ram h = simp (le-leb from j h)

  pub pixels_more : (from j : ℕ) (ram : List ℕ) → from ≤ j → pixels lit regs from (j + 1) ram ≡ put_nth lit regs j (pixels lit regs from j ram)
  pixels_more from j ram h = simp add-one (pixels_suc from j ram h)

  -- from..mid, and then mid..to
  pub pixels_join : (from mid to : ℕ) (ram : List ℕ) → from ≤ mid → mid ≤ to → pixels lit regs mid to (pixels lit regs from mid ram) ≡ pixels lit regs from to ram
  pixels_join from mid zero ram low high =
      let m : mid ≡ 0 = omega arith in
      let f : from ≡ 0 = omega arith in
      rw (m, f) (pixels_none 0 _)
  pixels_join from mid (suc to) ram low high =
      split to mid
      (λ last. let m : mid ≡ suc to = omega arith in rw m (pixels_none (suc to) _))
      (λ more.
      pixels_suc mid to _ more
      ∙ ap (put_nth lit regs to) (pixels_join from mid to ram low more)
      ∙ sym (pixels_suc from to ram (omega arith)))
