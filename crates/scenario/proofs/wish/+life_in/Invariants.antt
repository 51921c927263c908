use Rattle.std.proofs.Common.{length}
use Rattle.scenario.proofs.wish.+life_in.Given as goal

abbrev pub decreases-life_in : goal.decreases-life_in
decreases-life_in l = length l.wishes.now
