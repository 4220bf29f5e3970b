-- `auditing::line::line_audited` meets its contract: what is seen of the two records is what is seen of the call. Assumes nothing.
use mathlib.Core.Path.{◌≡◌, sym, ◌∙◌}
use lib.ListN.{length}
use Rattle.layout.specs.Layout.{decoded}
use Rattle.session.specs.Session.{world}
use Rattle.calls.proofs.Bytes.{part_at, part_long, taken_at}
use Rattle.events.specs.declared.event.Step.{Step}
use Rattle.auditing.proofs.Lines.{stepped, end_allowed, line_audits}
use Rattle.auditing.proofs.line.line_audited.Goals as goal

pub entered-requires : goal.entered-requires
entered-requires c =
    let a = c.args in
    let f = c.frame_of-frame in
    let b = c.look-before in
    let d = c.carry_out-answer in
    let e = c.look in
    let w = world (decoded a.state.now) a.ram.now a.store.now a.image.now in
    let w' = world (decoded d.new.state) d.new.ram d.new.store d.new.image in
    let is : ◌≡◌ {A = Step} (record { frame = f.result; before = b.result; after = e.result; size = length a.ram.now; number = d.result.number; value = d.result.value }) (stepped w w' f.result d.result.number d.result.value) =
    (λ i. record { frame = f.result; before = b.ensures i; after = e.ensures i; size = length a.ram.now; number = d.result.number; value = d.result.value }) in
    (c.requires.1, c.requires.2, part_long _ d.ensures.1, end_allowed a.rom.now a.line.now a.book.now w w' f.result d.result f.ensures d.ensures.0 _ _ is (part_at _ d.ensures.1 ∙ sym (taken_at _)))

pub returns : goal.returns
returns c =
    let a = c.args in
    let f = c.frame_of-frame in
    let b = c.look-before in
    let d = c.carry_out-answer in
    let e = c.look in
    let w = world (decoded a.state.now) a.ram.now a.store.now a.image.now in
    let w' = world (decoded d.new.state) d.new.ram d.new.store d.new.image in
    let is : ◌≡◌ {A = Step} (record { frame = f.result; before = b.result; after = e.result; size = length a.ram.now; number = d.result.number; value = d.result.value }) (stepped w w' f.result d.result.number d.result.value) =
    (λ i. record { frame = f.result; before = b.ensures i; after = e.ensures i; size = length a.ram.now; number = d.result.number; value = d.result.value }) in
    (line_audits a.rom.now a.line.now a.book.now w w' f.result d.result f.ensures d.ensures.0 _ _ is (part_at _ d.ensures.1 ∙ sym (taken_at _)) a.out.now a.at c.entered.new.book c.entered.new.out c.entered.result c.entered.ensures, d.ensures.1)
