-- `session::session::do_reset` meets its contract: the reset state is a record. Assumes nothing.
use mathlib.Core.Path.{ap, ◌∙◌}
use Rattle.layout.specs.Layout.{encoded, is_record, decoded}
use Rattle.layout.proofs.Inverse.{record_parts, encoded_record, decode_encode}
use Rattle.session.proofs.Steps.{reset_whole}
use Rattle.session.proofs.session.do_reset.Goals as goal

pub encode-requires : goal.encode-requires
encode-requires c = (record_parts _ c.requires).long

pub returns : goal.returns
returns c =
    let e = c.encode.ensures ∙ ap encoded c.reset.ensures in
    (ap is_record e ∙ encoded_record _ reset_whole, ap decoded e ∙ decode_encode _ reset_whole, c.done.ensures.0, c.done.ensures.1)
