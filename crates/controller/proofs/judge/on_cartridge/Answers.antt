-- `controller::judge::on_cartridge` meets its contract. Assumes nothing.
use Rattle.controller.specs.Table.{on_cartridge}
use Rattle.std.proofs.Common.{le-ltb, lt-ltb, le-leb}
use borrow.Author.Tests.{lt-leb}
use Rattle.controller.proofs.judge.on_cartridge.Goals as goal

pub returns-then-address-lt32768 : goal.returns-then-address-lt32768
unfolding on_cartridge
returns-then-address-lt32768 c = simp (lt-ltb _ _ c.if-address-lt32768.true)

pub returns-then-address-lt40960 : goal.returns-then-address-lt40960
unfolding on_cartridge
returns-then-address-lt40960 c = simp (le-ltb _ _ c.if-address-lt32768.false, lt-leb _ _ c.if-address-lt40960.true)

pub returns : goal.returns
unfolding on_cartridge
returns c = simp (le-ltb _ _ c.if-address-lt32768.false, le-leb _ _ c.if-address-lt40960.false)
