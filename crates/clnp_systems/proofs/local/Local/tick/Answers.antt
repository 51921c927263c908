-- Buffers are taken out until none is due.
use Rattle.std.proofs.Common.{◌≡◌, ◌+◌, ℕ, List, refl, sym, ap, ◌∙◌, subst, arith}
use Rattle.clnp_machine.specs.ClnpViews.Extent.{Extent}
use Rattle.clnp_machine.specs.Reassembly.Buffer.{Buffer}
use Rattle.clnp_machine.specs.Reassembly.NoWhole.{HasNoWhole}
use Rattle.clnp_machine.specs.Reassembly.State as table
use Rattle.clnp_machine.specs.Local.{expire}
use Rattle.clnp_systems.specs.LocalState.{EntityState}
use Rattle.clnp_systems.proofs.Ticking.{IsLeft, after_more, after_none, ended_early, left_first, left_more, ready_at_end, ready_early, ticked_appends, ticked_stands}
use Rattle.clnp_systems.proofs.local.Local.tick.Goals as goal

pub loop-init : goal.loop-init
loop-init c = record {
  done = after_none c.args.self.now c.args.out.now.items c.reserve.new.self.items c.args.now c.reserve.ensures.items;
  left = left_first c.args.self.now.table c.from-live.result (subst (λ (e : EntityState). HasNoWhole e.table) c.self.view_is c.self.invariant.none_whole) (λ buffers stands. c.from-live.ensures ∙ c.live.ensures.live buffers (subst (λ (e : EntityState). table.Stands e.table buffers) (sym c.self.view_is) stands));
  room = omega (arith, c.in-Ok.ensures.ok);
  config = refl;
}

pub give_up-requires : goal.give_up-requires
give_up-requires c = omega (arith, c.loop.invariant.room)

pub returns-then-not-give_up-clause-stands : goal.returns-then-not-give_up-clause-stands
returns-then-not-give_up-clause-stands c =
    let so_far = c.loop.invariant.done in
    let given = λ (buffers : List (Buffer Extent)) (stands : table.Stands c.loop.self.table buffers). (c.if-not-give_up.ensures.given buffers stands).0 in
    ticked_stands c.args.self.now c.give_up.new.self c.args.out.now.items c.give_up.new.out.items c.args.now (c.loop.counter + 1) c.from-live.result
    (after_more c.args.self.now c.loop.self c.give_up.new.self c.args.out.now.items c.loop.out.items c.give_up.new.out.items c.args.now c.loop.counter so_far
    c.give_up.ensures.stands c.give_up.ensures.actions)
    (ended_early c.args.self.now c.loop.self c.give_up.new.self c.args.out.now.items c.loop.out.items c.give_up.new.out.items c.args.now c.loop.counter so_far
    c.from-live.result c.loop-test.true given)
    (λ buffers stands. c.from-live.ensures ∙ c.live.ensures.live buffers (subst (λ (e : EntityState). table.Stands e.table buffers) (sym c.self.view_is) stands))

pub returns-then-not-give_up-clause-actions : goal.returns-then-not-give_up-clause-actions
returns-then-not-give_up-clause-actions c =
    let so_far = c.loop.invariant.done in
    let given = λ (buffers : List (Buffer Extent)) (stands : table.Stands c.loop.self.table buffers). (c.if-not-give_up.ensures.given buffers stands).0 in
    ticked_appends c.args.self.now c.give_up.new.self c.args.out.now.items c.give_up.new.out.items c.args.now (c.loop.counter + 1) c.from-live.result
    (after_more c.args.self.now c.loop.self c.give_up.new.self c.args.out.now.items c.loop.out.items c.give_up.new.out.items c.args.now c.loop.counter so_far
    c.give_up.ensures.stands c.give_up.ensures.actions)
    (ended_early c.args.self.now c.loop.self c.give_up.new.self c.args.out.now.items c.loop.out.items c.give_up.new.out.items c.args.now c.loop.counter so_far
    c.from-live.result c.loop-test.true given)
    (λ buffers stands. c.from-live.ensures ∙ c.live.ensures.live buffers (subst (λ (e : EntityState). table.Stands e.table buffers) (sym c.self.view_is) stands))

pub returns-then-not-give_up-clause-ready : goal.returns-then-not-give_up-clause-ready
returns-then-not-give_up-clause-ready c =
    ready_early c.loop.self.table c.give_up.new.self.table c.args.now c.loop.counter c.from-live.result c.loop.invariant.left
    c.if-not-give_up.ensures.given

pub loop-preserved : goal.loop-preserved
loop-preserved c = record {
  done = after_more c.args.self.now c.loop.self c.give_up.new.self c.args.out.now.items c.loop.out.items c.give_up.new.out.items c.args.now c.loop.counter
      c.loop.invariant.done c.give_up.ensures.stands c.give_up.ensures.actions;
  left = left_more c.loop.self.table c.give_up.new.self.table c.args.now c.loop.counter c.from-live.result c.loop.invariant.left
      c.if-not-give_up.ensures.given;
  room = omega (arith, c.loop.invariant.room, c.give_up.ensures.len, c.give_up.ensures.capacity);
  config = c.give_up.ensures.config ∙ c.loop.invariant.config;
}

pub returns-clause-stands : goal.returns-clause-stands
returns-clause-stands c =
    ticked_stands c.args.self.now c.loop.self c.args.out.now.items c.loop.out.items c.args.now c.loop.counter c.from-live.result c.loop.invariant.done
    (λ s stands moment. ap (λ (n : ℕ). expire n s) (let e : c.from-live.result ≡ c.loop.counter = omega arith in e))
    (λ buffers stands. c.from-live.ensures ∙ c.live.ensures.live buffers (subst (λ (e : EntityState). table.Stands e.table buffers) (sym c.self.view_is) stands))

pub returns-clause-actions : goal.returns-clause-actions
returns-clause-actions c =
    ticked_appends c.args.self.now c.loop.self c.args.out.now.items c.loop.out.items c.args.now c.loop.counter c.from-live.result c.loop.invariant.done
    (λ s stands moment. ap (λ (n : ℕ). expire n s) (let e : c.from-live.result ≡ c.loop.counter = omega arith in e))
    (λ buffers stands. c.from-live.ensures ∙ c.live.ensures.live buffers (subst (λ (e : EntityState). table.Stands e.table buffers) (sym c.self.view_is) stands))

pub returns-clause-ready : goal.returns-clause-ready
returns-clause-ready c =
    let e : c.loop.counter ≡ c.from-live.result = omega arith in
    ready_at_end c.loop.self.table c.args.now c.from-live.result (subst (λ (n : ℕ). IsLeft c.loop.self.table n c.from-live.result) e c.loop.invariant.left)
