use Rattle.std.proofs.Common.{length}
use Rattle.scenario.proofs.wish.+options_in.Given as goal

abbrev pub decreases-options_in : goal.decreases-options_in
decreases-options_in l = length l.wishes.now
