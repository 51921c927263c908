use Rattle.std.proofs.Common.{sym, ◌∙◌}
use Rattle.std.specs.Str.{bytes_eq}
use Rattle.clnp_plan.specs.ScenarioPlan.Plan.{Subnetwork}
use Rattle.clnp_plan.proofs.ClnpBase.Maps.{position-map}
use Rattle.scenario.proofs.event_line.subnet_place_of.Goals as goal

pub returns-clause-place : goal.returns-clause-place
returns-clause-place c =
    c.first_subnet_named.ensures.place ∙ sym (position-map (λ (subnet : Subnetwork). subnet.name) (λ name. bytes_eq name c.args.name.now) c.args.subnets.now)
