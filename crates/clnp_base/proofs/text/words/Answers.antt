use Rattle.clnp_base.proofs.Reading.{words_of-few}
use Rattle.clnp_base.proofs.text.words.Goals as goal

pub returns-clause-few : goal.returns-clause-few
returns-clause-few c = words_of-few c.args.line.now
