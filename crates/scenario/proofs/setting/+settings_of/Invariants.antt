use Rattle.std.proofs.Common.{length}
use Rattle.scenario.proofs.setting.+settings_of.Given as goal

abbrev pub decreases-settings_of : goal.decreases-settings_of
decreases-settings_of l = length l.settings.now
