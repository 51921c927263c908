-- One addressee after another is given the copy.
use Rattle.std.proofs.Common.{◌∙◌, ◌+◌, Bool, Option, arith, subst}
use Rattle.std.proofs.lemmas.Result.{on_ok_weaker}
use Rattle.clnp_program.specs.declared.clnp_world.network.giving.Addressee.{Addressee}
use Rattle.clnp_program.proofs.ClnpWorld.GiveSteps.{TellsGiven, TellsNext, given_more, gives_by, gives_more, leads_nowhere, leads_to, next_port, settles_none, settles_some, still_running}
use Rattle.clnp_program.proofs.clnp_world.network.Network.give_each.Goals as goal

pub give-requires-clause-running : goal.give-requires-clause-running
give-requires-clause-running g c =
    still_running c.args.self.now c.loop-next.self (g.L.LineSink.taken c.args.lines.now) (g.L.LineSink.taken c.loop-next.lines) c.args.limits c.args.at c.loop-next.from
    c.requires.running (omega (arith, c.args.self.now.copies.ok.0)) c.loop-next.invariant.gives

pub loop-next-preserved : goal.loop-next-preserved
loop-next-preserved g c =
    let old = c.args.self.now in
    let code = c.loop-next.self in
    let new = c.give.new.self in
    let before = g.L.LineSink.taken c.args.lines.now in
    let between = g.L.LineSink.taken c.loop-next.lines in
    let after = g.L.LineSink.taken c.give.new.lines in
    let at = c.args.at in
    let from = c.loop-next.from in
    let next = c.in-Some.next in
    let tells = subst (λ (found : Option Addressee). TellsNext code at from found) c.in-Some.is c.next_addressee.ensures.next in
    let leads = leads_to old code before between c.args.limits at from next c.loop-next.invariant.gives tells in
    let within = c.in-Some.ensures.within in
    record {
      gives = gives_more old code new before between after c.args.limits at from next.place c.loop-next.invariant.gives leads
          (gives_by code new between after c.args.limits (at + 1) at next.place next.port (omega (arith, within, code.systems.ok.0))
          (next_port code at from next tells) c.in_ok-give.ensures.follows);
      given = given_more old at from next.place leads;
      systems = c.in_ok-give.ensures.systems ∙ c.loop-next.invariant.systems;
      copies = omega (arith, c.in_ok-give.ensures.copies, c.loop-next.invariant.copies);
    }

pub returns-then-given : goal.returns-then-given
returns-then-given g c =
    let old = c.args.self.now in
    let code = c.loop-next.self in
    let before = g.L.LineSink.taken c.args.lines.now in
    let between = g.L.LineSink.taken c.loop-next.lines in
    let at = c.args.at in
    let from = c.loop-next.from in
    settles_some old code before between c.args.limits at from c.loop-next.invariant.gives
    (subst (λ (b : Bool). TellsGiven old at from b) c.if-given.true c.loop-next.invariant.given)
    (leads_nowhere old code before between c.args.limits at from c.loop-next.invariant.gives
    (subst (λ (found : Option Addressee). TellsNext code at from found) c.in_default.is c.next_addressee.ensures.next))

pub returns : goal.returns
returns g c =
    let old = c.args.self.now in
    let code = c.loop-next.self in
    let before = g.L.LineSink.taken c.args.lines.now in
    let between = g.L.LineSink.taken c.loop-next.lines in
    let at = c.args.at in
    let from = c.loop-next.from in
    on_ok_weaker c.take.result
    (settles_none old code before between (g.L.LineSink.taken c.take.new.self) c.args.limits at from c.loop-next.invariant.gives
    (subst (λ (b : Bool). TellsGiven old at from b) c.if-given.false c.loop-next.invariant.given)
    (leads_nowhere old code before between c.args.limits at from c.loop-next.invariant.gives
    (subst (λ (found : Option Addressee). TellsNext code at from found) c.in_default.is c.next_addressee.ensures.next)))
    c.take.ensures
