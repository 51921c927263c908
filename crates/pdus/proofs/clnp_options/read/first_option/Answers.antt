use Rattle.std.proofs.Common.{arith}
use Rattle.pdus.proofs.ClnpOptions.Parts.{parameters-below_two, parameters-cut_off, parameters-from}
use Rattle.pdus.proofs.clnp_options.read.first_option.Goals as goal

pub returns-in_default-clause-none : goal.returns-in_default-clause-none
returns-in_default-clause-none c = parameters-below_two c.args.part.now (omega arith)

pub returns-then-size-rest-clause-none : goal.returns-then-size-rest-clause-none
returns-then-size-rest-clause-none c = parameters-cut_off c.args.part.now (omega arith) (omega arith)

pub returns-clause-options : goal.returns-clause-options
returns-clause-options c = parameters-from c.args.part.now _ _ (omega arith) (omega arith) c.split_at.ensures.front c.split_at.ensures.back
