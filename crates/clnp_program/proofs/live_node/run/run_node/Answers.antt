-- From the start to the end.
use Rattle.std.proofs.Common.{subst, sym}
use Rattle.clnp_machine.specs.LiveModel.Course.{first_node}
use Rattle.clnp_program.specs.LiveNode.Clocks.{clock_of}
use Rattle.clnp_program.specs.LiveNode.Plays.{Stands, attached_of}
use Rattle.clnp_program.specs.declared.live_node.node.LiveNode.{LiveNode}
use Rattle.clnp_program.proofs.LiveNode.Runs.{only_one, ran_nowhere, read_once}
use Rattle.clnp_program.proofs.live_node.run.run_node.Goals as goal

pub returns-in_default-clause-ran : goal.returns-in_default-clause-ran
returns-in_default-clause-ran g c =
    let one = only_one c.args.scenario.now.systems c.requires.one in
    ran_nowhere c.args.scenario.now one.0 one.1 c.args.turns c.now-start.result (g.B.Ports.ports c.args.board.now) _ _ (read_once c.now-start.ensures.given c.now-start.ensures.later c.now-start.ensures.early c.now-start.ensures.kept)
    c.a_port_is_detached_by_its_failure.ensures.ports _

pub returns-in_default-open-clause-ran : goal.returns-in_default-open-clause-ran
returns-in_default-open-clause-ran g c =
    let one = only_one c.args.scenario.now.systems c.requires.one in
    ran_nowhere c.args.scenario.now one.0 one.1 c.args.turns c.now-start.result (g.B.Ports.ports c.args.board.now) _ _ (read_once c.now-start.ensures.given c.now-start.ensures.later c.now-start.ensures.early c.now-start.ensures.kept)
    c.a_port_is_detached_by_its_failure.ensures.ports _

pub returns-clause-ran : goal.returns-clause-ran
returns-clause-ran g c =
    let one = only_one c.args.scenario.now.systems c.requires.one in
    let ports = g.B.Ports.ports c.args.board.now in
    c.run_opened.ensures.ran one.0 (clock_of (g.C.Clock.moments c.args.clock.now) (g.C.Clock.last c.args.clock.now)) one.1
    (read_once c.now-start.ensures.given c.now-start.ensures.later c.now-start.ensures.early c.now-start.ensures.kept)
    (subst (λ (node : LiveNode). Stands node ports (first_node c.args.scenario.now.limits one.0 c.now-start.result (attached_of ports)))
    (sym c.deref_mut.ensures.value) (c.in-Ok-open.ensures.stands one.0 ports one.1))
