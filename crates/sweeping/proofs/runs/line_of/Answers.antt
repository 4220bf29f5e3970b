-- `sweeping::runs::line_of` meets its contract: a line that says a frame ends at the LF after it. Assumes nothing.
use mathlib.Core.Path.{sym, ap, ◌∙◌}
use Prim.Native.Nat.{◌+◌}
use native.Mathlib.Omega.{arith}
use Rattle.lines.specs.Kinds.{is_malformed}
use Rattle.short.proofs.Standing.{ends_there}
use Rattle.sweeping.proofs.Turns.{strides_line}
use Rattle.sweeping.proofs.runs.line_of.Goals as goal

pub returns : goal.returns
returns c =
    let a = c.args in
    let d = c.line_audited-next in
    let said = sym (ap is_malformed c.frame_of.ensures) ∙ sym c.is_malformed.ensures ∙ c.if-is_malformed.false in
    let e = ends_there a.piece.now a.from (a.from + a.n) (omega arith) c.requires.2 c.if-piece-end-ne10.false said in
    (strides_line a.rom.now a.piece.now _ _ a.out.now a.from a.at (a.from + a.n) e c.requires.2 c.requires.3 _ _ _ _ d.ensures.0, d.ensures.1)
