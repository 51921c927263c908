use Rattle.std.proofs.Common.{refl}
use Rattle.clnp_program.specs.Texts.{page_text, show_page}
use Rattle.clnp_program.proofs.pages.show.Goals as goal

pub returns : goal.returns
unfolding page_text show_page
returns c = refl
