-- `session::session::write_answer` meets its contract: case by case. Assumes nothing.
use Rattle.session.proofs.session.write_answer.Goals as goal

pub returns-in-Ok : goal.returns-in-Ok
returns-in-Ok c = (rw c.in-Ok.is c.done.ensures.0, c.done.ensures.1)

pub returns-in-Err : goal.returns-in-Err
returns-in-Err c = (rw c.in-Err.is c.refused.ensures.0, c.refused.ensures.1)
