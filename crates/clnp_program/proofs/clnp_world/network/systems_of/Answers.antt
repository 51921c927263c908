-- One more system is at its start.
use Rattle.std.proofs.Common.{◌+◌, List, [], ◌∷◌, ◌++◌, take, sym, subst, arith, refl}
use Rattle.clnp_machine.specs.System.{SystemState, first_state}
use Rattle.clnp_machine.specs.ClnpNetwork.LabelledNetwork as network
use Rattle.clnp_systems.specs.declared.system.System.{System}
use Rattle.clnp_program.specs.ClnpWorld.Stands.{StandEach}
use Rattle.clnp_program.proofs.ClnpWorld.EachSteps.{each_push}
use Rattle.clnp_program.proofs.ClnpWorld.ModelSteps.{states_from-take}
use Rattle.clnp_program.proofs.clnp_world.network.systems_of.Goals as goal
use Rattle.std.proofs.lemmas.Option.{slice_get_read}

pub loop-config-preserved : goal.loop-config-preserved
loop-config-preserved c =
    let limits = c.limits-limits.result.now in
    let systems = c.systems-declared.result.now in
    let system = c.config-item.result in
    let place = c.loop-config.config-index in
    let at = slice_get_read systems _ place system refl (omega arith) c.config-item.is in
    subst (λ (nodes : List System). StandEach nodes (network.states_from limits 0 (take (place + 1) systems))) (sym (c.in_ok-push.ensures.items))
    (subst (λ (states : List SystemState). StandEach (c.loop-config.systems.items ++ c.in_ok-system.system ∷ []) states)
    (sym (states_from-take limits systems place system at))
    (each_push c.loop-config.systems.items (network.states_from limits 0 (take place systems)) c.in_ok-system.system
    (first_state place system limits 0 0) c.loop-config.invariant (c.in_ok-system.ensures.stands place)))
