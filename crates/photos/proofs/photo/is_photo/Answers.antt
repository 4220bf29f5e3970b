-- `photos::photo::is_photo` meets its contract: test by test. Assumes nothing.
use Prim.Native.Nat.{◌<◌}
use native.Mathlib.Omega.{arith}
use lib.ListN.{length}
use borrow.Author.Tests.{lt-leb, le-leb}
use Rattle.photos.specs.Photo.{is_photo}
use Rattle.photos.proofs.photo.is_photo.Goals as goal

pub returns-in_default : goal.returns-in_default
unfolding is_photo
returns-in_default c =
    let h : length c.args.file.now < 49152 = omega (arith, c.in_default.ensures) in
    simp (lt-leb _ _ h)

pub returns-then-end-le-HEADER : goal.returns-then-end-le-HEADER
unfolding is_photo
returns-then-end-le-HEADER c =
    let s = c.in-Some.ensures in
    simp (le-leb _ _ s.0, le-leb _ _ (rw s.1 at c.if-end-le-HEADER.true)) (rw s.1 at c.is_header.ensures)

pub returns-else-end-le-HEADER : goal.returns-else-end-le-HEADER
unfolding is_photo
returns-else-end-le-HEADER c =
    let s = c.in-Some.ensures in
    simp (s.1, le-leb _ _ s.0, lt-leb _ _ (rw s.1 at c.if-end-le-HEADER.false))
