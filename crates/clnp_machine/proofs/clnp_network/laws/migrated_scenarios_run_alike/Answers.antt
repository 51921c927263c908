use Rattle.std.proofs.Common.{refl}
use Rattle.clnp_machine.proofs.ClnpNetwork.Alike.{all_made_alike, journal_alike, last_alike, run_alike, stopped_alike}
use Rattle.clnp_machine.proofs.clnp_network.laws.migrated_scenarios_run_alike.Goals as goal

pub returns-clause-moves : goal.returns-clause-moves
returns-clause-moves c plan = refl

pub returns-clause-made : goal.returns-clause-made
returns-clause-made c = all_made_alike

pub returns-clause-run : goal.returns-clause-run
returns-clause-run c = run_alike

pub returns-clause-world : goal.returns-clause-world
returns-clause-world c = last_alike

pub returns-clause-stopped : goal.returns-clause-stopped
returns-clause-stopped c = stopped_alike

pub returns-clause-journal : goal.returns-clause-journal
returns-clause-journal c = journal_alike
