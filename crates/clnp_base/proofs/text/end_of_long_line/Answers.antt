use Rattle.std.proofs.Common.{sym}
use Rattle.clnp_base.proofs.Reading.{index_of_found, index_of_none}
use Rattle.clnp_base.proofs.text.end_of_long_line.Goals as goal

pub returns-in-Some-clause-place : goal.returns-in-Some-clause-place
returns-in-Some-clause-place c =
    let found = c.in-Some.ensures in
    sym (index_of_found 10 c.args.text.now c.in-Some.place found.0.high found.0.before found.1)

pub returns-in-None-clause-place : goal.returns-in-None-clause-place
returns-in-None-clause-place c = sym (index_of_none 10 c.args.text.now c.in-None.ensures)
