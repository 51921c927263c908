-- The octets are those of the body.
use Rattle.std.proofs.Common.{List, ℕ, ◌∙◌, subst}
use Rattle.std.proofs.lemmas.Result.{on_ok_weaker}
use Rattle.clnp_machine.specs.System.{AsksToSend}
use Rattle.clnp_machine.specs.ClnpNetwork.LabelledNetwork as network
use Rattle.clnp_program.specs.ClnpWorld.Parts.{Follows}
use Rattle.clnp_program.proofs.clnp_world.network.Network.send.Goals as goal

pub returns : goal.returns
returns g c =
    on_ok_weaker c.send_octets.result (λ sends model h.
    subst (λ (octets : List ℕ). Follows c.send_octets.new.self (g.L.LineSink.taken c.args.lines.now) (g.L.LineSink.taken c.send_octets.new.lines)
    (network.asks model c.args.place (AsksToSend c.args.from c.args.to octets c.args.ask.now)))
    (c.deref.ensures.value ∙ c.in_ok-octets.ensures) (sends model h))
    c.send_octets.ensures
