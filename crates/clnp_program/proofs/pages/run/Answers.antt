use Rattle.std.proofs.Common.{refl}
use Rattle.clnp_program.specs.Texts.{page_text, run_page}
use Rattle.clnp_program.proofs.pages.run.Goals as goal

pub returns : goal.returns
unfolding page_text run_page
returns c = refl
