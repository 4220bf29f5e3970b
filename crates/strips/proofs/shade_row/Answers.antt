-- `strips::shade_row` meets its contract: the bits of a row that is turned are those of the row. Assumes nothing.
use Rattle.strips.proofs.Columns.{low_all, high_all}
use Rattle.strips.proofs.shade_row.Goals as goal

pub returns : goal.returns
returns c =
    let a = c.args in
    let made = c.turn-turned.ensures in (
      low_all a.values.now a.regs.now a.row made c.requires.0 c.pack.ensures.0,
      high_all a.values.now a.regs.now a.row made c.requires.0 c.pack.ensures.1,
    )
