-- The copy of the model, and its system as it now is.
use Rattle.std.proofs.Common.{◌∙◌, ℕ, List, Option, sym, ap, subst, arith}
use Rattle.std.specs.List.{position}
use Rattle.clnp_machine.specs.ClnpPlan.Configuration.{SystemConfiguration}
use Rattle.clnp_machine.specs.ClnpPlan.declared.config.PortConfig.{PortConfig}
use Rattle.clnp_machine.specs.ClnpPlan.declared.config.Role.{Role}
use Rattle.clnp_machine.specs.ClnpNetwork.LabelledNetwork as network
use Rattle.clnp_program.specs.ClnpWorld.Seen.{IsPortFor, enters}
use Rattle.clnp_program.specs.declared.clnp_world.copy.FrameCopy.{FrameCopy}
use Rattle.clnp_program.proofs.ClnpWorld.GiveSteps.{copy_at}
use Rattle.clnp_program.proofs.ClnpWorld.ModelSteps.{port_found}
use Rattle.clnp_program.proofs.clnp_world.network.Network.port_for.Goals as goal

pub returns : goal.returns
returns c = λ model copy system h at there.
    let old = c.args.self.now in
    let role = c.role-role.result in
    let ports = c.ports_at.result.now in
    let same = copy_at old model c.args.at c.index.result.now copy h (omega (arith, old.copies.ok.0)) c.index.ensures at in
    subst (λ (found : Option ℕ). IsPortFor copy system found)
    (sym (c.first_port.ensures
    ∙ ap (λ (seen : FrameCopy). position (enters seen role) ports) same
    ∙ ap (λ (r : Role). position (network.enters copy r) ports)
    (c.role-role.ensures ∙ ap (λ (s : SystemConfiguration). s.role) (c.config_at.ensures model system h there))
    ∙ ap (λ (ps : List PortConfig). position (network.enters copy system.configuration.role) ps) (c.ports_at.ensures.ports model system h there)))
    (port_found copy system)
