use Rattle.std.proofs.Common.{◌∙◌}
use Rattle.clnp_systems.proofs.entity.steps.has_content.Goals as goal

pub returns : goal.returns
returns c = (c.octets_have_content.ensures.0, c.octets_have_content.ensures.1, c.octets_have_content.ensures.2 ∙ c.parts.ensures.octets)
