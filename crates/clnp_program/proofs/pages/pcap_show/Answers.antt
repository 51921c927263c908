use Rattle.std.proofs.Common.{refl}
use Rattle.clnp_program.specs.Texts.{page_text, pcap_show_page}
use Rattle.clnp_program.proofs.pages.pcap_show.Goals as goal

pub returns : goal.returns
unfolding page_text pcap_show_page
returns c = refl
