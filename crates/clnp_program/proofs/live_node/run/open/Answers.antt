-- A node at its start.
use Rattle.std.proofs.Common.{◌≡◌, ◌+◌, ◌∙◌, List, ap, get_or, refl, subst, sym}
use Rattle.clnp_machine.specs.ClnpPlan.Configuration.{SystemConfiguration}
use Rattle.clnp_machine.specs.ClnpPlan.declared.config.Limits.{Limits}
use Rattle.clnp_machine.specs.System.{first_state}
use Rattle.clnp_systems.specs.Stands as clnp_systems
use Rattle.clnp_machine.specs.LiveModel.Course.{first_node}
use Rattle.clnp_program.specs.LiveNode.Plays.{Stands, attached_of}
use Rattle.clnp_program.specs.declared.live_node.node.LiveNode.{LiveNode}
use Rattle.clnp_program.proofs.live_node.run.open.Goals as goal

pub returns-clause-stands : goal.returns-clause-stands
returns-clause-stands c = λ system ports one.
    let live = c.in_ok-live.live in
    let start = c.args.start in
    let first : c.index-systems-0.result ≡ system =
    c.index-systems-0.is ∙ ap (λ (all : List SystemConfiguration). get_or all 0 c.index-systems-0.result) (c.systems.ensures ∙ one) in
    subst (λ (node : LiveNode). Stands node ports (first_node c.args.scenario.now.limits system start (attached_of ports))) (sym c.in_ok-new.ensures.ok)
    (record {
      system = subst (λ (limits : Limits). clnp_systems.Stands live.system (first_state 0 system limits start (start + limits.reuse))) c.limits.ensures
          (subst (λ (s : SystemConfiguration). clnp_systems.Stands live.system (first_state 0 s c.limits.result.now start (start + c.limits.result.now.reuse)))
          first c.in_ok-live.ensures.system);
      now = c.in_ok-live.ensures.now;
      copies = c.in_ok-live.ensures.copies;
      polled = c.in_ok-live.ensures.polled;
      attached = refl;
    })
