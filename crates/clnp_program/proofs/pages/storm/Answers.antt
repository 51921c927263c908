use Rattle.std.proofs.Common.{refl}
use Rattle.clnp_program.specs.Texts.{page_text, storm_page}
use Rattle.clnp_program.proofs.pages.storm.Goals as goal

pub returns : goal.returns
unfolding page_text storm_page
returns c = refl
