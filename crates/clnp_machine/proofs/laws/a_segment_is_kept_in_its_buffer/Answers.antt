use Rattle.clnp_machine.proofs.Kept.{answer_without, held_after, others_stay, taking}
use Rattle.clnp_machine.proofs.laws.a_segment_is_kept_in_its_buffer.Goals as goal

pub returns-clause-buffers : goal.returns-clause-buffers
returns-clause-buffers c = taking

pub returns-clause-others : goal.returns-clause-others
returns-clause-others c = others_stay

pub returns-clause-within : goal.returns-clause-within
returns-clause-within c = held_after

pub returns-clause-apart : goal.returns-clause-apart
returns-clause-apart c = answer_without
