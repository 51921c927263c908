use Rattle.std.proofs.Common.{◌∙◌}
use Rattle.clnp_plan.proofs.DigitSteps.{sixteen_told}
use Rattle.clnp_plan.proofs.digits.all_digits.Goals as goal

pub returns : goal.returns
returns c = c.in-Ok.ensures.written ∙ sixteen_told
