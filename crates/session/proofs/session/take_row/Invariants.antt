-- The invariant of `session::session::take_row`. Assumes nothing.
use Rattle.std.proofs.Common.{◌≡◌}
use Rattle.session.specs.Session.{row_taken}
use Rattle.session.proofs.session.take_row.Given as goal

abbrev pub invariant-loop-i : goal.invariant-loop-i
invariant-loop-i l = l.image ≡ row_taken l.line l.y l.i l.initial.image
