-- `session::session::carry_out` meets its contract: frame by frame. Assumes nothing.
use mathlib.Core.Path.{sym, ◌∙◌}
use Rattle.session.proofs.Steps.{says_reset_lem, says_malformed, says_row_lem, says_read_lem, says_write_lem, says_tick_lem, ran_reset, ran_read, ran_write, ran_tick, ran_row, ran_malformed}
use Rattle.session.proofs.session.carry_out.Goals as goal

pub do_row-requires : goal.do_row-requires
do_row-requires c = sym c.requires.1 ∙ c.in-Row.is

pub returns-in-Reset : goal.returns-in-Reset
returns-in-Reset c =
    let d = c.do_reset in
    let t = c.in-Reset.is in
    (record { step = says_reset_lem _ _ _ _ _ _ d.new.state d.ensures.1 (sym t ∙ c.requires.1) _ d.ensures.2; ran = ran_reset _ _ _ t; short = d.ensures.3 }, d.ensures.0)

pub returns-in-Read : goal.returns-in-Read
returns-in-Read c =
    let d = c.do_read.ensures in
    let t = c.in-Read.is in
    (record { step = says_read_lem _ _ _ _ _ _ _ (sym t ∙ c.requires.1) _ _ d; ran = ran_read _ _ _ _ t; short = d.short }, d.is)

pub returns-in-Write : goal.returns-in-Write
returns-in-Write c =
    let d = c.do_write.ensures in
    let t = c.in-Write.is in
    (record { step = says_write_lem _ _ _ _ _ _ _ _ (sym t ∙ c.requires.1) _ _ _ _ d; ran = ran_write _ _ _ _ _ t; short = d.short }, d.is)

pub returns-in-Tick : goal.returns-in-Tick
returns-in-Tick c =
    let d = c.do_tick.ensures.0 in
    let t = c.in-Tick.is in
    (record { step = says_tick_lem _ _ _ _ _ _ _ (sym t ∙ c.requires.1) _ _ _ d; ran = ran_tick _ _ _ _ t c.do_tick.ensures.1; short = d.short }, d.is)

pub returns-in-Row : goal.returns-in-Row
returns-in-Row c =
    let d = c.do_row.ensures in
    let t = c.in-Row.is in
    (record { step = says_row_lem _ _ _ _ _ _ _ (sym t ∙ c.requires.1) _ _ d.0 d.1; ran = ran_row _ _ _ _ t; short = d.2 }, c.requires.0)

pub returns-in-Malformed : goal.returns-in-Malformed
returns-in-Malformed c =
    let d = c.refused.ensures in
    let t = c.in-Malformed.is in
    (record { step = says_malformed _ _ _ _ _ _ (sym t ∙ c.requires.1) _ d.0; ran = ran_malformed _ _ _ t; short = d.1 }, c.requires.0)
