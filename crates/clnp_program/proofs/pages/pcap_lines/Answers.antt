use Rattle.std.proofs.Common.{refl}
use Rattle.clnp_program.specs.Texts.{page_text, pcap_lines_page}
use Rattle.clnp_program.proofs.pages.pcap_lines.Goals as goal

pub returns : goal.returns
unfolding page_text pcap_lines_page
returns c = refl
