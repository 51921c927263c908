-- What its entity leaves to it is noted.
use Rattle.std.proofs.Common.{◌∙◌, refl, sym, ap, subst, List, [], ◌∷◌, ◌++◌, None}
use Rattle.clnp_machine.specs.SystemTables.declared.esis_tables.fact.Neighbour.{Neighbour}
use Rattle.clnp_machine.specs.ClnpPlan.Configuration.{SystemConfiguration}
use Rattle.clnp_machine.specs.ClnpPlan.declared.config.Role.TheVariants.{Host}
use Rattle.clnp_machine.specs.ClnpPlan.declared.note.Note.TheVariants.{NotMine}
use Rattle.clnp_machine.specs.ClnpPlan.declared.output.Output.{Output}
use Rattle.clnp_machine.specs.ClnpPlan.declared.output.Output.TheVariants.{Note}
use Rattle.clnp_machine.specs.Given.{Appends}
use Rattle.clnp_machine.specs.System.{Effect, FrameComes, SystemState}
use Rattle.clnp_machine.proofs.Given.{appends_note}
use Rattle.clnp_systems.specs.Comes.{ComesOf, LeavesAsItWas}
use Rattle.clnp_systems.specs.EntityStands as entity
use Rattle.clnp_systems.specs.EntityState.{SystemEntityState}
use Rattle.clnp_systems.specs.Steps.{TakesStep}
use Rattle.clnp_systems.specs.declared.entity.Arrival.{Arrival}
use Rattle.clnp_systems.proofs.Both.{on_ok_both}
use Rattle.clnp_systems.specs.EndSystem.State.{HostState}
use Rattle.clnp_systems.proofs.HostPassing.{passed}
use Rattle.clnp_systems.proofs.host.EndSystem.frame.Goals as goal

pub returns-in-Ok-Done-clause-step : goal.returns-in-Ok-Done-clause-step
returns-in-Ok-Done-clause-step c = λ content carried frame.
    let neighbour : Neighbour = record { port = c.args.port; snpa = c.args.from } in
    let done = λ (s : SystemState) (h : entity.Stands c.self.inside.entity s).
    subst (λ (arrival : Arrival). ComesOf arrival s neighbour c.args.group content c.frame.new.self c.args.out.now.items c.frame.new.out.items) c.in-Ok-Done.field-0-is
    (c.in-Ok-Done.ensures.comes s content h carried frame) in
    subst (λ (host : HostState). TakesStep Host (FrameComes c.args.port c.args.from c.args.group content) host.entity c.frame.new.self
    c.args.out.now.items c.frame.new.out.items) c.self.view_is
    record {
      stands = λ s h. record { not_spent = c.in-Ok-Done.ensures.not_spent; parts = (done s h).parts };
      outputs = λ s h. (done s h).outputs;
      moment = c.in-Ok-Done.ensures.moment;
      config = c.in-Ok-Done.ensures.config;
    }

pub returns-in-Ok-Passes-clause-step : goal.returns-in-Ok-Passes-clause-step
returns-in-Ok-Passes-clause-step c =
    let neighbour : Neighbour = record { port = c.args.port; snpa = c.args.from } in
    let left = subst (λ (arrival : Arrival). LeavesAsItWas arrival c.self.inside.entity c.frame.new.self c.args.out.now.items c.frame.new.out.items)
    c.in-Ok-Passes.field-0-is c.in-Ok-Passes.ensures.left in
    on_ok_both c.note.result (λ same noted content carried frame.
    let noting = λ (s : SystemState) (h : entity.Stands c.self.inside.entity s).
    let role = ap (λ (system : SystemConfiguration). system.role) (sym h.parts.local.configuration) ∙ c.self.invariant in
    let other = subst (λ (arrival : Arrival). ComesOf arrival s neighbour c.args.group content
    c.frame.new.self c.args.out.now.items c.frame.new.out.items) c.in-Ok-Passes.field-0-is (c.in-Ok-Passes.ensures.comes s content h carried frame) in
    sym (passed s neighbour c.args.group content c.in-Ok-Passes.passing other role) in
    let written = noted ∙ ap (λ (outputs : List Output). outputs ++ Note (NotMine c.in-Ok-Passes.passing.to) ∷ []) left.1 in
    subst (λ (host : HostState). TakesStep Host (FrameComes c.args.port c.args.from c.args.group content) host.entity c.note.new.self
    c.args.out.now.items c.note.new.out.items) c.self.view_is
    record {
      stands = λ s h. subst (λ (effect : Effect). entity.Stands c.note.new.self effect.after) (noting s h)
          (subst (λ (e : SystemEntityState). entity.Stands e s) (sym (same ∙ left.0)) h);
      outputs = λ s h. subst (λ (effect : Effect). Appends s.moment None c.args.out.now.items c.note.new.out.items effect.outputs) (noting s h)
          (appends_note s.moment None c.args.out.now.items c.note.new.out.items (NotMine c.in-Ok-Passes.passing.to) (NotMine c.in-Ok-Passes.passing.to) written refl);
      moment = c.note.ensures.moment ∙ c.in-Ok-Passes.ensures.moment;
      config = c.note.ensures.config ∙ c.in-Ok-Passes.ensures.config;
    })
    c.note.ensures.same c.note.ensures.noted
