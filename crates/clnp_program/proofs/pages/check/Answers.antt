use Rattle.std.proofs.Common.{refl}
use Rattle.clnp_program.specs.Texts.{page_text, check_page}
use Rattle.clnp_program.proofs.pages.check.Goals as goal

pub returns : goal.returns
unfolding page_text check_page
returns c = refl
