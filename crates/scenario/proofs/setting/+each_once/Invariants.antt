use Rattle.std.proofs.Common.{length}
use Rattle.scenario.proofs.setting.+each_once.Given as goal

abbrev pub decreases-each_once : goal.decreases-each_once
decreases-each_once l = length l.settings.now
