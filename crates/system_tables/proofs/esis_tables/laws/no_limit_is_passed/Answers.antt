use Rattle.system_tables.proofs.EsisTables.Limits.{never_passed}
use Rattle.system_tables.proofs.esis_tables.laws.no_limit_is_passed.Goals as goal

pub returns : goal.returns
returns c = never_passed
