use Rattle.clnp_machine.proofs.Outside.{content_frame, content_carried}
use Rattle.clnp_machine.proofs.laws.octets_have_a_content.Goals as goal

pub returns-clause-frame : goal.returns-clause-frame
returns-clause-frame c = content_frame

pub returns-clause-carried : goal.returns-clause-carried
returns-clause-carried c = content_carried
