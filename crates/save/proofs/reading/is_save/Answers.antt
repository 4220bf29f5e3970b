-- `save::reading::is_save` meets its contract: test by test. Assumes nothing.
use Rattle.std.proofs.Common.{◌≡◌, ℕ, ◌-◌, true, false, eqb, length, take, ap, sym, ◌∙◌, arith}
use Rattle.crc.specs.Crc.{crc_of}
use Rattle.layout.specs.Layout.{four_at}
use Rattle.save.specs.Restore.{body_length_in, is_whole, is_save}
use Rattle.save.proofs.Restored.{sized}
use Rattle.save.proofs.reading.is_save.Goals.{then-is_sized, else-is_sized, then-has_magic, else-has_magic}
use Rattle.save.proofs.reading.is_save.Goals as goal

pub returns-then-is_state : goal.returns-then-is_state
unfolding is_save is_whole
returns-then-is_state c =
    let f = c.args.file.now in
    elim c.if-has_magic.branch [
      | then-has_magic w ↦
          elim c.if-is_sized.branch [
            | then-is_sized v ↦
                let is-sized = sym c.is_sized.ensures ∙ v.if-is_sized.true in
                let end : length f - 4 ≡ body_length_in f = omega (arith, (sized f is-sized).long) in
                simp (is-sized, sym v.has_magic.ensures ∙ sym v.value-is ∙ w.if-has_magic.true, sym w.is_state.ensures ∙ sym w.value-is ∙ c.if-is_state.true)
                (c.is_whole.ensures ∙ ap (λ (n : ℕ). eqb (four_at f n) (crc_of (take n f))) end)
            | else-is_sized v ↦ absurd (let h : true ≡ false = sym w.if-has_magic.true ∙ v.value-is ∙ v.if-is_sized.false in cc)
          ]
      | else-has_magic w ↦ absurd (let h : true ≡ false = sym c.if-is_state.true ∙ w.value-is ∙ w.if-has_magic.false in cc)
    ]

pub returns-else-is_state : goal.returns-else-is_state
unfolding is_save
returns-else-is_state c =
    elim c.if-is_sized.branch [
      | then-is_sized v ↦
          elim c.if-has_magic.branch [
            | then-has_magic w ↦
                simp (sym c.is_sized.ensures ∙ v.if-is_sized.true, sym v.has_magic.ensures ∙ sym v.value-is ∙ w.if-has_magic.true, sym w.is_state.ensures ∙ sym w.value-is ∙ c.if-is_state.false) c.if-is_state.false
            | else-has_magic w ↦ simp (sym c.is_sized.ensures ∙ v.if-is_sized.true, sym v.has_magic.ensures ∙ sym v.value-is ∙ w.if-has_magic.false) c.if-is_state.false
          ]
      | else-is_sized v ↦ simp (sym c.is_sized.ensures ∙ v.if-is_sized.false) c.if-is_state.false
    ]

pub has_magic-requires : goal.has_magic-requires
has_magic-requires c = omega (arith, (sized c.args.file.now (sym c.is_sized.ensures ∙ c.if-is_sized.true)).long)

pub slice_bounds-is_state-end : goal.slice_bounds-is_state-end
slice_bounds-is_state-end c =
    elim c.if-is_sized.branch [
      | then-is_sized v ↦ omega (arith, (sized c.args.file.now (sym c.is_sized.ensures ∙ v.if-is_sized.true)).long)
      | else-is_sized v ↦ absurd (let h : true ≡ false = sym c.if-has_magic.true ∙ v.value-is ∙ v.if-is_sized.false in cc)
    ]
