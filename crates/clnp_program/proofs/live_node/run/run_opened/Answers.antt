-- All turns, and then the last line.
use Rattle.clnp_program.proofs.LiveNode.Runs.{ran_ended, ran_stopped}
use Rattle.clnp_program.proofs.live_node.run.run_opened.Goals as goal

pub returns-in-Ok-clause-ran : goal.returns-in-Ok-clause-ran
returns-in-Ok-clause-ran g c = λ system first only read h.
    let ran = c.in-Ok.ensures.ran _ h in
    ran_ended c.args.scenario.now system only c.args.turns c.args.start (g.B.Ports.ports c.args.board.now) first _ read
    c.a_port_is_detached_by_its_failure.ensures.ports
    c.run_turns.new.live ran.0 _ _ _ _ _ ran.1 c.write_end.result c.write_end.ensures.written c.write_end.ensures.front c.write_end.ensures.stops

pub returns-in-Err-clause-ran : goal.returns-in-Err-clause-ran
returns-in-Err-clause-ran g c = λ system first only read h.
    ran_stopped c.args.scenario.now system only c.args.turns c.args.start (g.B.Ports.ports c.args.board.now) first _ read
    c.a_port_is_detached_by_its_failure.ensures.ports
    c.in-Err.stop _ _ _ _ (c.in-Err.ensures.stops _ h)
