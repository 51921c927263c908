use Rattle.pdus.specs.ClnpOptions.Parameter.{parameters}
use Rattle.pdus.proofs.ClnpOptions.Agree.{forms_of, readable}
use Rattle.pdus.proofs.clnp_options.kinds.walk.Goals as goal

pub invariant_of-result : goal.invariant_of-result
invariant_of-result c = readable (parameters c.args.part.now) (forms_of c.args.part.now c.requires).formed.formed
