-- The system stands for the system at its place.
use Rattle.std.proofs.Common.{◌∙◌, arith, refl}
use Rattle.clnp_program.proofs.ClnpWorld.EachSteps.{each_at}
use Rattle.clnp_program.proofs.clnp_world.network.Network.config_at.Goals as goal
use Rattle.std.proofs.lemmas.Option.{slice_get_read}

pub returns : goal.returns
returns c = λ model system h there.
    let here = slice_get_read c.args.self.now.systems.items _ c.args.place c.index.result.now refl (omega arith) c.index.ensures in
    let stands = each_at c.args.self.now.systems.items model.systems c.args.place c.index.result.now system h.systems here there in
    c.config.ensures ∙ stands.parts.local.configuration
