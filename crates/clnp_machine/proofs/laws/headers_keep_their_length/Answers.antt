use Rattle.clnp_machine.proofs.Behind.{header_kept}
use Rattle.clnp_machine.proofs.laws.headers_keep_their_length.Goals as goal

pub returns : goal.returns
returns c = λ units p range. header_kept c.laws_of_edits.ensures p range.options
