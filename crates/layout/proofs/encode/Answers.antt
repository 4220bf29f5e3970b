-- `layout::encode` meets its contract: its parts, stored one after the other, are the record's bytes. Assumes nothing.
use Rattle.std.proofs.Common.{◌≡◌, ◌∷◌, [], ◌++◌, length, refl, ◌∙◌, rules}
use mir.Val.{bool_byte}
use Rattle.layout.specs.Layout.{layout_number, low_first, two_low_first, counts, encoded}
use Rattle.layout.proofs.Stores.{as_flag, stored}
use Rattle.layout.proofs.encode.Goals as goal

pub returns : goal.returns
unfolding encoded
returns c =
    let k = c.args.c in
    let long : length k.registers ≡ 54 = search rules in
    rw (
      c.copy_from_slice.ensures.after,
      c.copy_from_slice-2.ensures.after,
      c.copy_from_slice-3.ensures.after,
      c.copy_from_slice-4.ensures.after,
      c.copy_from_slice-5.ensures.after,
      c.copy_from_slice-6.ensures.after,
      c.from.ensures,
      c.from-2.ensures,
      c.to_le_bytes.ensures,
      c.to_le_bytes-2.ensures,
      c.to_le_bytes-3.ensures,
    )
    (stored c.args.state.now (layout_number ∷ bool_byte k.enabled ∷ k.bank ∷ k.select ∷ bool_byte k.held ∷ []) (low_first k.elapsed.0) (two_low_first k.started) (two_low_first k.ended) k.registers k.taken c.requires refl refl refl refl long
    ∙ (λ i. layout_number ∷ as_flag k.enabled i ∷ k.bank ∷ k.select ∷ as_flag k.held i ∷ counts k ++ (k.registers ++ k.taken)))
