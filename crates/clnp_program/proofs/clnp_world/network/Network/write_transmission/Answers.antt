-- The next copy's number is one more than the copies that there are.
use Rattle.std.proofs.Common.{◌≡◌, ◌∙◌, ap, arith, length, refl}
use Rattle.std.proofs.lemmas.Result.{on_ok_weaker}
use Rattle.clnp_machine.specs.ClnpPlan.Configuration.{SystemConfiguration}
use Rattle.clnp_program.proofs.ClnpWorld.PutSteps.{same_transmission, counted}
use Rattle.clnp_program.proofs.clnp_world.network.Network.write_transmission.Goals as goal

pub returns : goal.returns
returns g c =
    on_ok_weaker c.take.result (λ written model system h there.
    let length_is : c.len.result ≡ length c.args.self.now.copies.items = omega (arith, c.len.ensures, c.args.self.now.copies.ok.0) in
    same_transmission (g.L.LineSink.taken c.args.lines.now) (g.L.LineSink.taken c.take.new.self) c.moment_at.result system.moment c.name.result.now
    system.configuration.name c.len.result (length model.copies) c.args.port c.args.target c.args.frame.now c.args.frame.now
    (c.moment_at.ensures.moment model system h there)
    (c.name.ensures ∙ ap (λ (s : SystemConfiguration). s.name) (c.config_at.ensures model system h there))
    (length_is ∙ counted c.args.self.now model h) refl written)
    c.take.ensures
