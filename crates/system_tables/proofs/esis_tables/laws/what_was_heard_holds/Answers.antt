use Rattle.system_tables.proofs.EsisTables.Redirects.{holds_until}
use Rattle.system_tables.proofs.esis_tables.laws.what_was_heard_holds.Goals as goal

pub returns : goal.returns
returns c = holds_until
