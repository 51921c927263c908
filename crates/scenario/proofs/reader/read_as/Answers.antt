use Rattle.std.proofs.Common.{◌∙◌, ap, map}
use Rattle.clnp_plan.specs.ClnpBase.Text.{lines_of}
use Rattle.scenario.specs.Declarations.{configuration_of}
use Rattle.scenario.proofs.Accepted.{declared_systems, plan_is}
use Rattle.scenario.proofs.reader.read_as.Goals as goal

pub systems_of-requires : goal.systems_of-requires
systems_of-requires c =
    rw c.into_parts-subnets.ensures.systems
    (declared_systems c.in_ok-version.version c.in_ok-version.number (lines_of c.in_ok-version.text.now) c.declarations.new.declared c.in_ok-number.number (lines_of c.in_ok-number.text.now)
    (rw c.new-declared.ensures at c.in_ok-number.ensures.declarations))

pub new-requires : goal.new-requires
new-requires c =
    let hosts = c.in_ok-systems.ensures ∙ ap (λ systems. map configuration_of systems) c.into_parts-subnets.ensures.systems in
    record {
      fit =
          c.each_version_is_fit.ensures c.args.links c.args.newest c.args.text.now
          (record { version = c.in_ok-version.version; limits = c.limits-limits.result; subnets = c.into_parts-subnets.result.0.items; systems = c.in_ok-systems.systems.items; events = c.in_ok-events.events.items })
          (plan_is c.args.links c.args.newest c.args.text.now c.in_ok-version.version c.in_ok-version.number c.in_ok-number.number (lines_of c.in_ok-version.text.now) (lines_of c.in_ok-number.text.now)
          c.declarations.new.declared c.limits-limits.result c.into_parts-subnets.result.0.items c.in_ok-systems.systems.items c.in_ok-events.events.items
          c.in_ok-version.ensures.header (rw c.new-declared.ensures at c.in_ok-number.ensures.declarations)
          c.in_ok-fits_at.ensures c.limits-limits.ensures c.into_parts-subnets.ensures.subnets hosts (rw (c.as_slice.ensures.value, c.as_slice-2.ensures.value) at c.in_ok-events.ensures));
    }
