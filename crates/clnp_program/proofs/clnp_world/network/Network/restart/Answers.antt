-- It is restarted.
use Rattle.std.proofs.lemmas.Result.{on_ok_weaker}
use Rattle.clnp_program.proofs.ClnpWorld.TakeSteps.{is_behind, no_frame}
use Rattle.clnp_program.proofs.clnp_world.network.Network.restart.Goals as goal

pub returns : goal.returns
returns g c =
    on_ok_weaker c.comes.result (λ follows model h. follows model no_frame h tt tt (is_behind c.args.self.now c.args.place model h))
    c.comes.ensures.follows
