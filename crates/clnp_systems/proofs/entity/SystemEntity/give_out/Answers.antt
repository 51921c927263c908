-- One action after another.
use Rattle.std.proofs.Common.{◌∙◌, ◌≡◌, sym, ap, ℕ, List, refl, subst, take}
use Rattle.std.proofs.Math.Seq.{take-length}
use Rattle.std.proofs.lemmas.List.{take_all}
use Rattle.clnp_machine.specs.ClnpPlan.declared.output.Output.{Output}
use Rattle.clnp_systems.specs.Does.{StaysInFront}
use Rattle.clnp_systems.specs.declared.action.Action.{Action}
use Rattle.clnp_systems.specs.Local.{DoAll}
use Rattle.clnp_systems.proofs.Outputs.{GivesOut, does_at, front_more, gives_more, gives_none, next_of}
use Rattle.clnp_systems.proofs.entity.SystemEntity.give_out.Goals as goal

pub loop-action-init : goal.loop-action-init
loop-action-init c = record {
  given = gives_none c.args.self.now c.args.out.now.items;
  left = refl;
  front = take-length c.args.out.now.items;
}

pub give-requires : goal.give-requires
give-requires c =
    let actions = c.deref_mut-action-items.result.now in
    let next = next_of actions c.loop-action.action-items c.loop-action.action-index c.action-item.result
    c.loop-action-test.true c.loop-action.auto.action-items c.loop-action.invariant.left in
    let done = subst (λ (list : List Action). DoAll list c.requires.0) (sym c.deref_mut-action-items.ensures.value) c.requires.1 in
    does_at actions c.requires.0 _ _ c.loop-action-test.true next.is done

pub loop-action-preserved : goal.loop-action-preserved
loop-action-preserved c =
    let actions = c.deref_mut-action-items.result.now in
    let next = next_of actions c.loop-action.action-items c.loop-action.action-index c.action-item.result
    c.loop-action-test.true c.loop-action.auto.action-items c.loop-action.invariant.left in
    record {
      given = subst (λ (list : List Action). GivesOut c.args.self.now c.args.out.now.items c.give.new.out.items list) (sym next.more)
          (gives_more c.args.self.now c.args.out.now.items c.loop-action.out.items c.give.new.out.items _ _ c.loop-action.invariant.given
          c.in_default.ensures.given);
      left = next.left c.give.new.action;
      front = front_more c.args.out.now.items c.loop-action.out.items c.give.new.out.items c.loop-action.invariant.front c.give.ensures.front;
    }

pub returns-in-Err-clause-none : goal.returns-in-Err-clause-none
returns-in-Err-clause-none c =
    c.truncate.ensures.items
    ∙ ap (λ (n : ℕ). take n c.give.new.out.items) (c.len-before.ensures ∙ c.args.out.now.ok.0)
    ∙ front_more c.args.out.now.items c.loop-action.out.items c.give.new.out.items c.loop-action.invariant.front c.give.ensures.front

pub returns-clause-given : goal.returns-clause-given
returns-clause-given c =
    let all : take c.loop-action.action-index c.deref_mut-action-items.result.now ≡ c.args.actions.items =
    take_all c.loop-action.action-index c.deref_mut-action-items.result.now c.loop-action-test.false ∙ c.deref_mut-action-items.ensures.value in
    subst (λ (actions : List Action). GivesOut c.args.self.now c.args.out.now.items c.loop-action.out.items actions) all c.loop-action.invariant.given

pub returns-in-Err-clause-front : goal.returns-in-Err-clause-front
returns-in-Err-clause-front c =
    subst (λ (after : List Output). StaysInFront c.args.out.now.items after) (sym (returns-in-Err-clause-none c)) (take-length c.args.out.now.items)

pub returns-clause-front : goal.returns-clause-front
returns-clause-front c = c.loop-action.invariant.front
