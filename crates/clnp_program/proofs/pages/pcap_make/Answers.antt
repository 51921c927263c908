use Rattle.std.proofs.Common.{refl}
use Rattle.clnp_program.specs.Texts.{page_text, pcap_make_page}
use Rattle.clnp_program.proofs.pages.pcap_make.Goals as goal

pub returns : goal.returns
unfolding page_text pcap_make_page
returns c = refl
