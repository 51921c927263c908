use Rattle.std.proofs.Common.{◌∙◌, refl}
use Rattle.clnp_machine.specs.System.{SendsEsis}
use Rattle.clnp_systems.proofs.Effects.{appends_pushed}
use Rattle.clnp_systems.proofs.Fronts.{front_one}
use Rattle.clnp_systems.proofs.esis.output.send.Goals as goal

pub returns-clause-given : goal.returns-clause-given
returns-clause-given c moment value spelled =
    appends_pushed moment _ _ _ _ (SendsEsis c.args.port c.args.to value) c.reserve.ensures.items c.push_reserved.ensures.items
    record {
      port_is = refl;
      target_is = refl;
      octets = c.in_ok-frame.ensures ∙ c.as_bytes.ensures.octets ∙ spelled.octets_are;
      first = refl;
      pdu = spelled.pdu;
    }

pub returns-clause-front : goal.returns-clause-front
returns-clause-front c = front_one _ _ _ _ c.reserve.ensures.items c.push_reserved.ensures.items
