-- The systems are at their start, and there are no copies.
use Rattle.std.proofs.Common.{◌≤◌, ◌∙◌, List, ap, length, map, refl, sym, subst}
use Rattle.std.specs.List.{AllByRecursion}
use Rattle.clnp_machine.specs.ClnpPlan.Configuration.{IsWithin}
use Rattle.clnp_machine.proofs.ClnpBase.Lists.{AllByRecursion-mapped}
use Rattle.clnp_machine.specs.ScenarioPlan.Plan.{Subnetwork}
use Rattle.clnp_program.specs.declared.clnp_world.copy.FrameCopy.{FrameCopy}
use Rattle.clnp_program.proofs.ClnpWorld.ModelSteps.{placed_at_start, states_at_start}
use Rattle.clnp_program.proofs.clnp_world.network.Network.new.Goals as goal

pub returns : goal.returns
returns c = record {
  shows = record {
    clock = refl;
    systems = c.in_ok-systems.ensures;
    mtus = c.in_ok-mtus.ensures ∙ ap (λ (subnets : List Subnetwork). map (λ (subnet : Subnetwork). subnet.mtu) subnets) c.subnets.ensures;
    wide = AllByRecursion-mapped (λ (subnet : Subnetwork). IsWithin 512 65535 subnet.mtu) (IsWithin 512 65535) (λ (subnet : Subnetwork). subnet.mtu)
        c.args.scenario.now.subnets (λ subnet fits. fits) c.is_fit.ensures.mtus;
    copies = c.in_ok-with_capacity.ensures.items;
    cursor = refl;
    carried = tt;
    born = tt;
    short = subst (λ (copies : List FrameCopy). AllByRecursion (λ (copy : FrameCopy). length copy.frame ≤ 70000) copies) (sym c.in_ok-with_capacity.ensures.items) tt;
    weight = refl;
    placed = placed_at_start c.args.scenario.now.limits c.args.scenario.now.systems;
  };
  behind = states_at_start c.args.scenario.now.limits 0 c.args.scenario.now.systems;
}
