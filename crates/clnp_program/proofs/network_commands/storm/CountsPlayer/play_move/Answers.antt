use Rattle.clnp_program.proofs.NetworkCommands.Plays.{counts_as, full_as, refused_as, stands_as}
use Rattle.clnp_program.proofs.network_commands.storm.CountsPlayer.play_move.Goals as goal

pub returns-in-Ok-clause-comes_to : goal.returns-in-Ok-clause-comes_to
returns-in-Ok-clause-comes_to g c = λ kind model past before u.
    let stands = stands_as kind c.args.scenario.now model past c.args.world.now before _ _ u in
    counts_as kind c.args.scenario.now model past c.args.mv.now c.args.world.now c.count_step.new.self before _ c.args.self.now c.count_step.new.counts u
    (c.in-Ok.ensures.full _ stands) (c.in-Ok.ensures.stands _ stands) (c.in-Ok.ensures.counted _ stands)

pub returns-in-Err-WorldFull-clause-comes_to : goal.returns-in-Err-WorldFull-clause-comes_to
returns-in-Err-WorldFull-clause-comes_to g c = λ kind model past before u.
    let stands = stands_as kind c.args.scenario.now model past c.args.world.now before _ _ u in
    let full = rw c.in-Err-WorldFull.field-0-is at (c.in-Err-WorldFull.ensures.full _ stands) in
    full_as kind c.args.scenario.now model past c.args.mv.now c.args.world.now before _ c.args.self.now c.in-Err-WorldFull.octets u full.0 full.1

pub returns-in-Err-NoMemory-clause-comes_to : goal.returns-in-Err-NoMemory-clause-comes_to
returns-in-Err-NoMemory-clause-comes_to g c = λ kind model past before u.
    refused_as kind c.args.scenario.now model past c.args.mv.now c.args.world.now before _ c.args.self.now u
