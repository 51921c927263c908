use Rattle.std.proofs.Common.{refl}
use Rattle.clnp_program.specs.Texts.{page_text, trace_page}
use Rattle.clnp_program.proofs.pages.trace.Goals as goal

pub returns : goal.returns
unfolding page_text trace_page
returns c = refl
