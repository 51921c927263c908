use Rattle.clnp_base.proofs.Reading.{lines_of-few}
use Rattle.clnp_base.proofs.text.lines.Goals as goal

pub returns-clause-few : goal.returns-clause-few
returns-clause-few c = lines_of-few c.args.text.now
