use Rattle.std.proofs.Common.{refl}
use Rattle.clnp_program.specs.Texts.{page_text, sim_page}
use Rattle.clnp_program.proofs.pages.sim.Goals as goal

pub returns : goal.returns
unfolding page_text sim_page
returns c = refl
