-- What its entity leaves to it is forwarded.
use Rattle.std.proofs.Common.{◌∙◌, sym, ap, subst, List, Some}
use Rattle.clnp_machine.specs.SystemTables.declared.esis_tables.fact.Neighbour.{Neighbour}
use Rattle.clnp_machine.specs.ClnpPlan.Configuration.{SystemConfiguration}
use Rattle.clnp_machine.specs.ClnpPlan.declared.config.Role.TheVariants as role
use Rattle.clnp_machine.specs.ClnpPlan.declared.output.Output.{Output}
use Rattle.clnp_machine.specs.Content.{Content, Labelled, frame_of}
use Rattle.clnp_machine.specs.Given.{Appends}
use Rattle.clnp_machine.specs.Step.{content_comes}
use Rattle.clnp_machine.specs.System as machine
use Rattle.clnp_machine.specs.System.{FrameComes, SystemState}
use Rattle.clnp_systems.specs.Comes.{ComesOf, LeavesAsItWas}
use Rattle.clnp_systems.specs.EntityStands as entity
use Rattle.clnp_systems.specs.EntityState.{SystemEntityState}
use Rattle.clnp_systems.specs.Steps.{TakesStep}
use Rattle.clnp_systems.specs.declared.entity.Arrival.{Arrival}
use Rattle.clnp_systems.proofs.Both.{on_ok_both}
use Rattle.clnp_systems.specs.Router.State.{RouterState}
use Rattle.clnp_systems.proofs.RouterPassing.{onward, passed_after, passed_outputs}
use Rattle.clnp_systems.proofs.router.Router.frame.Goals as goal
use Rattle.clnp_systems.proofs.Going.{appends_whatever_came}

pub returns-in-Ok-Done-clause-step : goal.returns-in-Ok-Done-clause-step
returns-in-Ok-Done-clause-step c = λ content carried frame.
    let neighbour : Neighbour = record { port = c.args.port; snpa = c.args.from } in
    let done = λ (s : SystemState) (h : entity.Stands c.self.inside.entity s).
    subst (λ (arrival : Arrival). ComesOf arrival s neighbour c.args.group content c.frame.new.self c.args.out.now.items c.frame.new.out.items) c.in-Ok-Done.field-0-is
    (c.in-Ok-Done.ensures.comes s content h carried frame) in
    subst (λ (router : RouterState). TakesStep role.Router (FrameComes c.args.port c.args.from c.args.group content) router.entity c.frame.new.self
    c.args.out.now.items c.frame.new.out.items) c.self.view_is
    record {
      stands = λ s h. record { not_spent = c.in-Ok-Done.ensures.not_spent; parts = (done s h).parts };
      outputs = λ s h. appends_whatever_came s.moment content c.args.out.now.items c.frame.new.out.items (content_comes s neighbour c.args.group content).outputs
          (done s h).outputs;
      moment = c.in-Ok-Done.ensures.moment;
      config = c.in-Ok-Done.ensures.config;
    }

pub returns-in-Ok-Passes-clause-step : goal.returns-in-Ok-Passes-clause-step
returns-in-Ok-Passes-clause-step c =
    let neighbour : Neighbour = record { port = c.args.port; snpa = c.args.from } in
    let old = c.self.inside.entity in
    let left = subst (λ (arrival : Arrival). LeavesAsItWas arrival old c.frame.new.self c.args.out.now.items c.frame.new.out.items)
    c.in-Ok-Passes.field-0-is c.in-Ok-Passes.ensures.left in
    on_ok_both c.forward.result (λ stood gave content carried frame.
    let other = λ (s : SystemState) (h : entity.Stands old s). subst (λ (arrival : Arrival). ComesOf arrival s neighbour c.args.group content
    c.frame.new.self c.args.out.now.items c.frame.new.out.items) c.in-Ok-Passes.field-0-is (c.in-Ok-Passes.ensures.comes s content h carried frame) in
    let is_router = λ (s : SystemState) (h : entity.Stands old s).
    ap (λ (system : SystemConfiguration). system.role) (sym h.parts.local.configuration) ∙ c.self.invariant in
    let still = λ (s : SystemState) (h : entity.Stands old s). subst (λ (e : SystemEntityState). entity.Stands e s) (sym left.0) h in
    let octets = λ (s : SystemState) (h : entity.Stands old s). sym frame ∙ ap frame_of (other s h).content_is in
    subst (λ (router : RouterState). TakesStep role.Router (FrameComes c.args.port c.args.from c.args.group content) router.entity c.forward.new.self.entity
    c.args.out.now.items c.forward.new.out.items) c.self.view_is
    record {
      stands = λ s h.
          let o = other s h in
          subst (λ (what : Content). entity.Stands c.forward.new.self.entity (content_comes s neighbour c.args.group what).after) (sym o.content_is)
          (subst (λ (t : SystemState). entity.Stands c.forward.new.self.entity t)
          (passed_after s neighbour c.args.group o.packet o.following (is_router s h) o.alive o.not_own)
          (stood s o.packet o.following (still s h) o.carriable o.has_value (octets s h)));
      outputs = λ s h.
          let o = other s h in
          let p = o.packet in
          let following = o.following in
          subst (λ (what : Content). Appends s.moment (Some what) c.args.out.now.items c.forward.new.out.items
          (content_comes s neighbour c.args.group what).outputs) (sym o.content_is)
          (subst (λ (others : List machine.Output). Appends s.moment (Some (Labelled p following)) c.args.out.now.items c.forward.new.out.items others)
          (passed_outputs s neighbour c.args.group p following (is_router s h) o.alive o.not_own
          (c.deeds_are_of_their_moment.ensures.packet s neighbour p following).itself.configuration)
          (subst (λ (before : List Output). Appends s.moment (Some (Labelled p following)) before c.forward.new.out.items (onward s neighbour p following).outputs)
          left.1 (gave s p following (still s h) o.carriable o.has_value (octets s h))));
      moment = c.forward.ensures.moment ∙ c.in-Ok-Passes.ensures.moment;
      config = c.forward.ensures.config ∙ c.in-Ok-Passes.ensures.config;
    })
    c.forward.ensures.stands c.forward.ensures.outputs
