-- `calls::first_write` meets its contract: where it is no start, one byte is changed. Assumes nothing.
use Rattle.std.proofs.Common.{sym, ◌∙◌, arith, rules}
use Rattle.cartridge.specs.Bus.{capture_written, store_written}
use Rattle.layout.specs.Layout.{decoded}
use Rattle.calls.proofs.Bytes.{held_at, register_set}
use Rattle.calls.proofs.first_write.Goals as goal

pub returns : goal.returns
unfolding capture_written store_written
returns c =
    let none = sym (c.is_start.ensures (decoded c.args.state.now) (held_at c.args.state.now)) ∙ c.if-is_start.false in
    (simp none (register_set _ (λ i. search rules) c.requires.0 0 _ (omega arith)), simp none)
