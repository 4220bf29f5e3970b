-- `placing::is_grey` meets its contract, by the test of all bytes. Assumes nothing.
use native.Mathlib.Omega.{arith}
use Rattle.placing.proofs.Weighed.{grey_test}
use Rattle.placing.proofs.is_grey.Goals as goal

pub returns : goal.returns
returns c = grey_test _ (omega arith)
