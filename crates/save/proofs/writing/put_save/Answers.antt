-- `save::writing::put_save` meets its contract: all before the checksum, and the checksum of it. Assumes nothing.
use mathlib.Core.Path.{refl}
use Prim.Native.Nat.{◌+◌, ◌-◌}
use native.Mathlib.Omega.{arith}
use lib.ListN.{length}
use Rattle.save.specs.Save.{body_of, save_of}
use Rattle.save.proofs.Saved.{body_length, sealed}
use Rattle.save.proofs.writing.put_save.Goals as goal

pub returns : goal.returns
unfolding save_of
returns c =
    let a = c.args in
    let s = a.state.now in
    let ram = a.ram.now in
    let store = a.store.now in
    sealed (body_of s ram store) a.out.now _ (16512 + length ram) (16516 + length ram) (16512 + length ram - 0) (16512 + length ram + 4 - (16512 + length ram)) (body_length s ram store c.requires.state_len.0 c.requires.state_len.1) (omega arith)
    c.put_body.ensures c.crc32-crc.ensures c.put_four.ensures refl (omega arith) (omega arith)
