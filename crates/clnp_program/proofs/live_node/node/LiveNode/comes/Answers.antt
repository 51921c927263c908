-- The system takes a step, and what it gives out goes out.
use Rattle.std.proofs.Common.{◌∙◌, List, ap, refl, sym, subst}
use Rattle.std.proofs.lemmas.Result.{IfErr-weaker, on_ok_weaker}
use Rattle.clnp_machine.specs.ClnpPlan.declared.output.Output.{Output}
use Rattle.clnp_machine.specs.Content.{Content}
use Rattle.clnp_machine.specs.Step.{step}
use Rattle.clnp_systems.specs.Stands as clnp_systems
use Rattle.clnp_systems.specs.Steps.{Carries, TakesStep, input_with}
use Rattle.clnp_systems.specs.declared.system.System.{System}
use Rattle.clnp_machine.specs.LiveModel.Node.{Node, comes, puts_all_out}
use Rattle.clnp_program.specs.LiveNode.Outputs.{PutAllOut}
use Rattle.clnp_program.proofs.LiveNode.Breaking.{breaks_as, breaks_for, breaks_nothing, idle_comes, more_comes, on_ok_there, unless_noticed}
use Rattle.clnp_program.proofs.LiveNode.Playing.{plays_as}
use Rattle.clnp_program.proofs.LiveNode.Steps.{step_gave, step_stands}
use Rattle.std.proofs.Common.{inl}
use Rattle.clnp_program.proofs.live_node.node.LiveNode.comes.Goals as goal

pub returns-then-is_err-clause-breaks : goal.returns-then-is_err-clause-breaks
returns-then-is_err-clause-breaks g c = λ node content h carries.
    let input = input_with content c.args.input.now in
    breaks_nothing _ (comes node input) node (g.B.Ports.ports c.args.board.now) (g.K.Sink.written c.args.sink.now) (idle_comes input node) h.attached
    (unless_noticed (more_comes node input))

pub returns-clause-plays : goal.returns-clause-plays
returns-clause-plays g c =
    on_ok_weaker c.put_all_out.result (λ plays node content h carries.
    let took : (content : Content) → Carries c.args.input.now content
    → TakesStep (clnp_systems.role_of c.args.self.now.system) (input_with content c.args.input.now) (clnp_systems.entity_of c.args.self.now.system) (clnp_systems.entity_of c.step.new.self)
    c.new-outputs.result.items c.step.new.out.items
    = on_ok_there c.step.result (sym c.is_err.ensures.value ∙ c.if-is_err.false) c.step.ensures.step in
    let board = g.B.Ports.ports c.args.board.now in
    let input = input_with content c.args.input.now in
    let effect = step node.system input in
    let next : Node = record node { system = effect.after } in
    let stands = step_stands c.args.self.now c.step.new.self c.moment_behind-self.result board node (clnp_systems.role_of c.args.self.now.system) input
    c.new-outputs.result.items c.step.new.out.items h (took content carries) (c.moment_behind-self.ensures content) in
    let gave = step_gave c.args.self.now c.step.new.self node (clnp_systems.role_of c.args.self.now.system) content c.args.input.now
    c.new-outputs.result.items c.step.new.out.items h.system c.new-outputs.ensures.items (took content carries) in
    plays_as (puts_all_out next effect.outputs) (comes node input) next node c.put_all_out.new.self board (g.B.Ports.ports c.put_all_out.new.board)
    (g.K.Sink.written c.args.sink.now) (g.K.Sink.written c.put_all_out.new.sink) (λ outcomes. refl) refl
    (plays next effect.outputs stands (subst (λ (os : List Output). PutAllOut os effect.outputs) (sym c.deref.ensures.value) gave)))
    c.put_all_out.ensures.plays

pub returns-clause-breaks : goal.returns-clause-breaks
returns-clause-breaks g c =
    IfErr-weaker c.put_all_out.result _ _ (λ stop breaks node content h carries.
    let took : (content : Content) → Carries c.args.input.now content
    → TakesStep (clnp_systems.role_of c.args.self.now.system) (input_with content c.args.input.now) (clnp_systems.entity_of c.args.self.now.system) (clnp_systems.entity_of c.step.new.self)
    c.new-outputs.result.items c.step.new.out.items
    = on_ok_there c.step.result (sym c.is_err.ensures.value ∙ c.if-is_err.false) c.step.ensures.step in
    let board = g.B.Ports.ports c.args.board.now in
    let input = input_with content c.args.input.now in
    let effect = step node.system input in
    let next : Node = record node { system = effect.after } in
    let stands = step_stands c.args.self.now c.step.new.self c.moment_behind-self.result board node (clnp_systems.role_of c.args.self.now.system) input
    c.new-outputs.result.items c.step.new.out.items h (took content carries) (c.moment_behind-self.ensures content) in
    let gave = step_gave c.args.self.now c.step.new.self node (clnp_systems.role_of c.args.self.now.system) content c.args.input.now
    c.new-outputs.result.items c.step.new.out.items h.system c.new-outputs.ensures.items (took content carries) in
    breaks_as _ (puts_all_out next effect.outputs) (comes node input) next node board (g.B.Ports.ports c.put_all_out.new.board)
    (g.K.Sink.written c.args.sink.now) (g.K.Sink.written c.put_all_out.new.sink) (λ outcomes. refl) refl
    (breaks_for _ _ _ next _ _ _ _ inl (breaks next effect.outputs stands (subst (λ (os : List Output). PutAllOut os effect.outputs) (sym c.deref.ensures.value) gave))))
    c.put_all_out.ensures.breaks

pub returns-clause-moment : goal.returns-clause-moment
returns-clause-moment g c =
    on_ok_weaker c.put_all_out.result (λ plays content carries.
    let took : (content : Content) → Carries c.args.input.now content
    → TakesStep (clnp_systems.role_of c.args.self.now.system) (input_with content c.args.input.now) (clnp_systems.entity_of c.args.self.now.system) (clnp_systems.entity_of c.step.new.self)
    c.new-outputs.result.items c.step.new.out.items
    = on_ok_there c.step.result (sym c.is_err.ensures.value ∙ c.if-is_err.false) c.step.ensures.step in
    ap (λ (s : System). (clnp_systems.entity_of s).moment) c.put_all_out.ensures.system ∙ (took content carries).moment)
    c.put_all_out.ensures.plays

pub returns-clause-config : goal.returns-clause-config
returns-clause-config g c = λ content carries.
    let took : (content : Content) → Carries c.args.input.now content
    → TakesStep (clnp_systems.role_of c.args.self.now.system) (input_with content c.args.input.now) (clnp_systems.entity_of c.args.self.now.system) (clnp_systems.entity_of c.step.new.self)
    c.new-outputs.result.items c.step.new.out.items
    = on_ok_there c.step.result (sym c.is_err.ensures.value ∙ c.if-is_err.false) c.step.ensures.step in
    ap (λ (s : System). clnp_systems.configuration_of s) c.put_all_out.ensures.system ∙ (took content carries).config
