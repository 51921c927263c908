use Rattle.std.proofs.Common.{refl}
use Rattle.clnp_program.specs.Texts.{page_text, reassemble_page}
use Rattle.clnp_program.proofs.pages.reassemble.Goals as goal

pub returns : goal.returns
unfolding page_text reassemble_page
returns c = refl
