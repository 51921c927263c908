use Rattle.system_tables.proofs.EsisTables.Standing.{stands_later}
use Rattle.system_tables.proofs.esis_tables.laws.time_goes_on.Goals as goal

pub returns : goal.returns
returns c = stands_later
