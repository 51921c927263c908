use Rattle.std.proofs.Common.{refl}
use Rattle.clnp_program.specs.Texts.{page_text, pack_page}
use Rattle.clnp_program.proofs.pages.pack.Goals as goal

pub returns : goal.returns
unfolding page_text pack_page
returns c = refl
