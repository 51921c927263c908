-- A host is asked to send; a router is asked nothing.
use Rattle.std.proofs.Common.{◌∙◌, sym, ap, arith, refl}
use Rattle.std.proofs.lemmas.Option.{slice_get_read}
use Rattle.std.proofs.lemmas.Result.{on_ok_weaker}
use Rattle.clnp_machine.specs.ClnpPlan.Configuration.{SystemConfiguration}
use Rattle.clnp_machine.specs.System.{AsksToSend}
use Rattle.clnp_program.proofs.ClnpWorld.SendSteps.{asks_host, asks_nobody, asks_router}
use Rattle.clnp_program.proofs.ClnpWorld.TakeSteps.{is_behind, no_frame}
use Rattle.clnp_program.proofs.clnp_world.network.Network.send_octets.Goals as goal

pub returns-then-place-len : goal.returns-then-place-len
returns-then-place-len g c =
    asks_nobody c.args.self.now (g.L.LineSink.taken c.args.lines.now) c.args.place (AsksToSend c.args.from c.args.to c.args.body.now c.args.ask.now)
    (omega (arith, c.args.self.now.systems.ok.0))

pub returns-in-Router : goal.returns-in-Router
returns-in-Router g c =
    let old = c.args.self.now in
    let node = c.index.result.now in
    asks_router old (g.L.LineSink.taken c.args.lines.now) c.args.place (AsksToSend c.args.from c.args.to c.args.body.now c.args.ask.now) node
    (slice_get_read old.systems.items _ c.args.place node refl (omega (arith, old.systems.ok.0)) c.index.ensures)
    (ap (λ (system : SystemConfiguration). system.role) (sym c.config.ensures) ∙ sym c.role.ensures ∙ c.in-Router.is)

pub returns-in-Host : goal.returns-in-Host
returns-in-Host g c =
    let old = c.args.self.now in
    let node = c.index.result.now in
    on_ok_weaker c.comes.result (λ follows.
    asks_host old c.comes.new.self (g.L.LineSink.taken c.args.lines.now) (g.L.LineSink.taken c.comes.new.lines) c.args.place (AsksToSend c.args.from c.args.to c.args.body.now c.args.ask.now) node
    (slice_get_read old.systems.items _ c.args.place node refl (omega (arith, old.systems.ok.0)) c.index.ensures)
    (ap (λ (system : SystemConfiguration). system.role) (sym c.config.ensures) ∙ sym c.role.ensures ∙ c.in-Host.is)
    (λ model h. follows model no_frame h tt tt (is_behind old c.args.place model h)))
    c.comes.ensures.follows
