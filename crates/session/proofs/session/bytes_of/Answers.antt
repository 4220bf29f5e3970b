-- `session::session::bytes_of` meets its contract: a state of its type's sizes reads back. Assumes nothing.
use borrow.Author.Rules.{rules}
use mathlib.Core.Path.{ap, ◌∙◌}
use native.Mathlib.Omega.{arith}
use Rattle.layout.specs.Layout.{is_record, decoded}
use Rattle.layout.proofs.Inverse.{Whole, encoded_record, decode_encode}
use Rattle.session.proofs.session.bytes_of.Goals as goal

pub returns : goal.returns
returns c =
    let w : Whole c.args.c = record { registers = search rules; taken = search rules; elapsed = omega arith; started = omega arith; ended = omega arith } in
    let e = c.encode.ensures in
    (ap is_record e ∙ encoded_record _ w, ap decoded e ∙ decode_encode _ w)
