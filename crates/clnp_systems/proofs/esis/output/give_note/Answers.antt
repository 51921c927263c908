use Rattle.std.proofs.Common.{refl}
use Rattle.clnp_machine.specs.System.{Notes}
use Rattle.clnp_systems.proofs.Effects.{appends_pushed}
use Rattle.clnp_systems.proofs.Fronts.{front_one}
use Rattle.clnp_systems.proofs.esis.output.give_note.Goals as goal

pub returns-clause-given : goal.returns-clause-given
returns-clause-given c moment =
    appends_pushed moment _ _ _ _ (Notes c.args.note) c.reserve.ensures.items c.push_reserved.ensures.items refl

pub returns-clause-front : goal.returns-clause-front
returns-clause-front c = front_one _ _ _ _ c.reserve.ensures.items c.push_reserved.ensures.items
