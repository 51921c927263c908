use Rattle.scenario.proofs.Versions.{read_alike, taken_alike}
use Rattle.scenario.proofs.laws.version_1_is_read_alike.Goals as goal

pub returns-clause-accepted : goal.returns-clause-accepted
returns-clause-accepted c = taken_alike

pub returns-clause-alike : goal.returns-clause-alike
returns-clause-alike c = read_alike
