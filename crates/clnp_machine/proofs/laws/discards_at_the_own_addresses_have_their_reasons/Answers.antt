use Rattle.std.proofs.Common.{refl}
use Rattle.clnp_machine.proofs.laws.discards_at_the_own_addresses_have_their_reasons.Goals as goal

pub returns-clause-interference : goal.returns-clause-interference
returns-clause-interference c s frame arrival kept there other = refl

pub returns-clause-no_slot : goal.returns-clause-no_slot
returns-clause-no_slot c s frame arrival kept live = refl

pub returns-clause-crowded : goal.returns-clause-crowded
returns-clause-crowded c s frame arrival kept held size = refl

pub returns-clause-many : goal.returns-clause-many
returns-clause-many c s frame arrival kept segments = refl

pub returns-clause-expired : goal.returns-clause-expired
returns-clause-expired c s p = refl

pub returns-clause-unknown : goal.returns-clause-unknown
returns-clause-unknown c s u = refl

pub returns-clause-uncut : goal.returns-clause-uncut
returns-clause-uncut c hop = refl
