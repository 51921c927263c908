use Rattle.std.proofs.Common.{arith, subst, sym, ℕ, List}
use Rattle.clnp_machine.specs.Esis.{hears_each}
use Rattle.std.proofs.lemmas.Result.{err_from_is_err_and}
use Rattle.clnp_systems.proofs.Fronts.{front_more, front_none}
use Rattle.clnp_systems.proofs.Hearing.{HeardSoFar, all_heard, none_heard, one_heard}
use Rattle.clnp_systems.proofs.esis.EsisEntity.hear_each.Goals as goal

pub loop-address-preserved : goal.loop-address-preserved
loop-address-preserved c = record {
  heard = λ s h at.
      one_heard c.args.now c.loop-address.self c.hear_key.new.self c.args.out.now.items c.loop-address.out.items c.hear_key.new.out.items c.loop-address.new
      c.in_ok-new.field-0 c.args.neighbour.now c.args.hold c.in-Some.address c.next.new.self
      (hears_each s c.into_iter-address-iterator.result c.args.neighbour.now c.args.hold)
      (subst (λ (left : List (List ℕ)). HeardSoFar c.args.now c.loop-address.self c.args.out.now.items c.loop-address.out.items c.loop-address.new c.args.neighbour.now c.args.hold
      left (hears_each s c.into_iter-address-iterator.result c.args.neighbour.now c.args.hold)) c.in-Some.ensures.steps (c.loop-address.invariant.heard s h at))
      c.in_ok-new.ensures.heard;
  front = front_more c.args.out.now.items c.loop-address.out.items c.hear_key.new.out.items c.loop-address.invariant.front c.hear_key.ensures.front;
}

pub returns-in_err-new-clause-front : goal.returns-in_err-new-clause-front
returns-in_err-new-clause-front c =
    front_more c.args.out.now.items c.loop-address.out.items c.hear_key.new.out.items c.loop-address.invariant.front c.hear_key.ensures.front

pub loop-address-smaller : goal.loop-address-smaller
loop-address-smaller c = rw c.in-Some.ensures.steps (omega arith)

pub returns-clause-front : goal.returns-clause-front
returns-clause-front c = c.loop-address.invariant.front

pub loop-address-init : goal.loop-address-init
loop-address-init c = record {
  heard = λ s h at. none_heard c.args.now c.args.self.now c.args.out.now.items s c.into_iter-address-iterator.result c.args.neighbour.now c.args.hold h at;
  front = front_none c.args.out.now.items;
}

pub returns-in_err-new-clause-heard : goal.returns-in_err-new-clause-heard
returns-in_err-new-clause-heard c =
    let p = err_from_is_err_and c.from_residual.result c.from_residual.ensures.1 in
    rw p.1 tt

pub returns-clause-heard : goal.returns-clause-heard
returns-clause-heard c s h at =
    rw (sym c.into_iter-address-iterator.ensures.into_iter_gives) (all_heard c.args.now c.loop-address.self c.args.out.now.items c.loop-address.out.items
    c.loop-address.new c.args.neighbour.now c.args.hold c.loop-address.address-iterator
    (hears_each s c.into_iter-address-iterator.result c.args.neighbour.now c.args.hold) c.in-None.ensures.steps.0 (c.loop-address.invariant.heard s h at))
