use Rattle.pdus.proofs.ClnpOptions.Parts.{parameters-nil, parameters-of_spelled, spelled-nil}
use Rattle.pdus.proofs.clnp_options.laws.spelled_options_read_back.Goals as goal

pub returns-clause-options : goal.returns-clause-options
returns-clause-options c = parameters-of_spelled

pub returns-clause-none : goal.returns-clause-none
returns-clause-none c = parameters-nil

pub returns-clause-no_octets : goal.returns-clause-no_octets
returns-clause-no_octets c = spelled-nil
