use Rattle.clnp_machine.proofs.KeysApart.{each_is_the_one, step_apart}
use Rattle.clnp_machine.proofs.Staying.{segments_stay_or_are_told, stays_or_is_told}
use Rattle.clnp_machine.proofs.laws.what_is_kept_stays_or_is_told.Goals as goal

pub returns-clause-buffers : goal.returns-clause-buffers
returns-clause-buffers c = stays_or_is_told

pub returns-clause-segments : goal.returns-clause-segments
returns-clause-segments c = segments_stay_or_are_told

pub returns-clause-one_of_a_key : goal.returns-clause-one_of_a_key
returns-clause-one_of_a_key c = each_is_the_one

pub returns-clause-keys : goal.returns-clause-keys
returns-clause-keys c = step_apart
