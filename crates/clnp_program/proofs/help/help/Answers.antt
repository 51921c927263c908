use Rattle.std.proofs.Common.{refl}
use Rattle.clnp_program.specs.Texts.{help_text}
use Rattle.clnp_program.proofs.help.help.Goals as goal

pub returns : goal.returns
unfolding help_text
returns c = refl
