use Rattle.std.proofs.Common.{None}
use Rattle.scenario.specs.Grammar.{newest_version}
use Rattle.scenario.proofs.laws.accepted_is_fit.Goals as goal

pub returns : goal.returns
returns c = c.each_version_is_fit.ensures None newest_version
