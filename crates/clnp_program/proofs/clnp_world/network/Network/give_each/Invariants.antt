use Rattle.std.proofs.Common.{◌≡◌, ◌-◌, ◌≤◌, vec_len}
use Rattle.clnp_program.proofs.ClnpWorld.GiveSteps.{Gives, TellsGiven}
use Rattle.clnp_program.proofs.clnp_world.network.Network.give_each.Given as goal

abbrev pub invariant-loop-next : goal.invariant-loop-next
invariant-loop-next g l = record {
  gives : Gives l.initial.self l.self (g.L.LineSink.taken l.initial.lines) (g.L.LineSink.taken l.lines) l.limits l.at l.from;
  given : TellsGiven l.initial.self l.at l.from l.given;
  systems : vec_len l.self.systems ≡ vec_len l.initial.self.systems;
  copies : vec_len l.initial.self.copies ≤ vec_len l.self.copies;
}

abbrev pub decreases-loop-next : goal.decreases-loop-next
decreases-loop-next g l = vec_len l.initial.self.systems - l.from
