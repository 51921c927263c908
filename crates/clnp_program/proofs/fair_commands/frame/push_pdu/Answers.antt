use Rattle.scenario.specs.PduHeader.View.{pdu_value}
use Rattle.clnp_program.proofs.FairCommands.Arriving.{pdu_comes}
use Rattle.clnp_program.proofs.FairCommands.Frames.{on_ok}
use Rattle.clnp_program.proofs.fair_commands.frame.push_pdu.Goals as goal

pub returns-in_err-push_expired-clause-value : goal.returns-in_err-push_expired-clause-value
returns-in_err-push_expired-clause-value c =
    c.a_frame_has_one_value.ensures c.args.came.now.frame (pdu_value c.args.pdu.now) c.args.pdu.now.rest.now c.requires.begins

pub push_arrived-requires-clause-value : goal.push_arrived-requires-clause-value
push_arrived-requires-clause-value c =
    c.a_frame_has_one_value.ensures c.args.came.now.frame (pdu_value c.args.pdu.now) c.args.pdu.now.rest.now c.requires.begins

pub returns-clause-value : goal.returns-clause-value
returns-clause-value c =
    c.a_frame_has_one_value.ensures c.args.came.now.frame (pdu_value c.args.pdu.now) c.args.pdu.now.rest.now c.requires.begins

pub returns-clause-tells : goal.returns-clause-tells
returns-clause-tells c =
    let v = pdu_value c.args.pdu.now in
    let value = c.a_frame_has_one_value.ensures c.args.came.now.frame v c.args.pdu.now.rest.now c.requires.begins in
    on_ok c.push_arrived.result _ _ (λ arrived.
    pdu_comes c.args.came.now v c.args.pdu.now.from c.args.tables.now c.push_expired.new.tables c.push_arrived.new.tables
    c.args.out.now.items c.push_expired.new.out.items c.push_arrived.new.out.items value c.in_ok-push_expired.ensures.tells arrived)
    c.push_arrived.ensures
