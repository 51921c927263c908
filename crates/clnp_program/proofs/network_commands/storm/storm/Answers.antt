use Rattle.std.proofs.Common.{◌∙◌, List, ℕ, Option, Err, ap, arith, refl, subst, sym}
use Rattle.scenario.specs.ScenarioWriting.Seeds as seeds
use Rattle.clnp_base.specs.CommandBase.ByLine.{EndOf}
use Rattle.clnp_base.specs.CommandBase.ComesAs.{ComesAs}
use Rattle.clnp_program.specs.NetworkCommands.Play.{status_of}
use Rattle.clnp_program.specs.NetworkCommands.Storm.{summary_text}
use Rattle.clnp_program.specs.NetworkCommands.RunTasks.{storm_task}
use Rattle.clnp_program.proofs.NetworkCommands.Storms.{storm_ended, storm_stopped, stops_for_write_fault}
use Rattle.clnp_program.proofs.network_commands.storm.storm.Goals as goal

pub returns-in-Ok-clause-comes_to : goal.returns-in-Ok-clause-comes_to
returns-in-Ok-clause-comes_to g c =
    storm_ended c.args.seed (seeds.storm c.args.seed) c.in-Ok.summary (g.K.Sink.written c.args.sink.now) (g.K.Sink.written c.write_line.new.sink) c.write_line.result
    refl c.in-Ok.ensures.sums
    (subst (λ (t : Option (List ℕ)). EndOf (summary_text c.in-Ok.summary) t (g.K.Sink.written c.write_line.new.sink) c.write_line.result)
    c.in-Ok.ensures.same c.write_line.ensures.written)

pub returns-in-Err-clause-comes_to : goal.returns-in-Err-clause-comes_to
returns-in-Err-clause-comes_to g c =
    rw c.status.ensures
    (subst (λ (t : Option (List ℕ)). ComesAs (storm_task c.args.seed) (g.K.Sink.written c.args.sink.now) t (status_of c.in-Err.stop))
    (sym c.in-Err.ensures.same)
    (storm_stopped c.args.seed c.in-Err.stop (g.K.Sink.written c.args.sink.now) c.in-Err.ensures.sums))

pub returns-in-Err-clause-failed : goal.returns-in-Err-clause-failed
returns-in-Err-clause-failed g c = λ is.
    c.in-Err.ensures.failed (ap Err (stops_for_write_fault c.in-Err.stop (sym c.status.ensures ∙ is)))

pub returns-in-Ok-clause-failed : goal.returns-in-Ok-clause-failed
returns-in-Ok-clause-failed g c = λ is. omega (arith, c.in-Ok.ensures.later, c.write_line.ensures.failed is)
