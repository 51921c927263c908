use Rattle.system_tables.proofs.EsisTables.Ended.{gone_rise, gone_those}
use Rattle.system_tables.proofs.esis_tables.laws.gone_are_those_that_ended.Goals as goal

pub returns : goal.returns
returns c = record { rising = gone_rise; those = gone_those }
