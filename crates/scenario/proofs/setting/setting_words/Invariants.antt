use Rattle.std.proofs.Common.{◌≡◌, length}
use Rattle.clnp_plan.specs.ClnpBase.Text.{words_of}
use Rattle.scenario.specs.Declarations.{setting_words}
use Rattle.scenario.proofs.Readings.{with_front}
use Rattle.scenario.proofs.setting.setting_words.Given as goal

abbrev pub invariant-loop-word : goal.invariant-loop-word
invariant-loop-word l = with_front l.settings.items (setting_words (words_of l.left)) ≡ setting_words (words_of l.line)

abbrev pub decreases-loop-word : goal.decreases-loop-word
decreases-loop-word l = length l.left
