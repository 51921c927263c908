use Rattle.std.proofs.Common.{refl}
use Rattle.clnp_program.specs.Texts.{wanted}
use Rattle.clnp_program.proofs.fault.behind_bad_words.Goals as goal

pub returns : goal.returns
unfolding wanted
returns c = refl
