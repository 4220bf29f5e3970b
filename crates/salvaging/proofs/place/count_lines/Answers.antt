-- `salvaging::place::count_lines` meets its contract: a script has no more lines than bytes. Assumes nothing.
use Rattle.std.proofs.Common.{inl, arith}
use Rattle.salvaging.proofs.Cleaned.{lines_few}
use Rattle.salvaging.proofs.place.count_lines.Goals as goal

pub count-requires-clause-fits : goal.count-requires-clause-fits
count-requires-clause-fits c = inl (omega (arith, c.args.script.bound, lines_few c.args.script.text.now))
