use Rattle.std.proofs.Common.{refl}
use Rattle.clnp_program.specs.Texts.{version_text}
use Rattle.clnp_program.proofs.help.version.Goals as goal

pub returns : goal.returns
unfolding version_text
returns c = refl
