use Rattle.scenario.specs.PduHeader.View.{part_value, pdu_value}
use Rattle.system_tables.specs.Reassembly.State.{IsReady}
use Rattle.system_tables.specs.FairReassembly.Tables.{place_of}
use Rattle.std.proofs.Common.{ap}
use Rattle.std.specs.Prelude.{option_map}
use Rattle.clnp_program.proofs.FairCommands.Arriving.{alone_arrived, dead_arrived, offer_arrived, table_within, whole_there}
use Rattle.clnp_program.proofs.FairCommands.Frames.{on_ok}
use Rattle.clnp_program.proofs.fair_commands.frame.push_arrived.Goals as goal

pub push_answer-requires-clause-place : goal.push_answer-requires-clause-place
push_answer-requires-clause-place c =
    table_within c.args.came.now (pdu_value c.args.pdu.now) c.in_ok-frame.frame c.requires.value c.in_ok-frame.ensures c.args.tables.now c.offer.new.self
    c.in-Answered.table c.in-Answered.accept c.in-Answered.ensures

pub push_answer-requires-clause-whole : goal.push_answer-requires-clause-whole
push_answer-requires-clause-whole c =
    whole_there c.args.came.now (pdu_value c.args.pdu.now) c.in_ok-frame.frame c.requires.value c.in_ok-frame.ensures c.args.tables.now c.offer.new.self
    c.in-Answered.table c.in-Answered.accept c.in-Answered.ensures

pub returns-in-Dead : goal.returns-in-Dead
returns-in-Dead c =
    on_ok c.push_told.result _ _ (λ line.
    dead_arrived c.args.came.now (pdu_value c.args.pdu.now) c.in_ok-frame.frame c.requires.value c.in_ok-frame.ensures
    (place_of c.args.tables.now.sources c.args.pdu.now.from) c.args.tables.now c.offer.new.self (IsReady c.args.came.now.moment) c.args.out.now.items c.push_told.new.out.items
    c.requires.ready c.in-Dead.ensures line)
    c.push_told.ensures

pub returns-in-Alone : goal.returns-in-Alone
returns-in-Alone c =
    on_ok c.push_told-in-Alone.result _ _ (λ line.
    alone_arrived c.args.came.now (pdu_value c.args.pdu.now) c.in_ok-frame.frame c.requires.value c.in_ok-frame.ensures
    (place_of c.args.tables.now.sources c.args.pdu.now.from) c.args.tables.now c.offer.new.self (IsReady c.args.came.now.moment) c.args.out.now.items c.push_told-in-Alone.new.out.items
    c.requires.ready c.in-Alone.ensures line)
    c.push_told-in-Alone.ensures

pub returns-in-Some : goal.returns-in-Some
returns-in-Some c =
    on_ok c.push_answer.result _ _ (λ answered.
    offer_arrived c.args.came.now (pdu_value c.args.pdu.now) c.in_ok-frame.frame c.requires.value c.in_ok-frame.ensures c.args.tables.now c.offer.new.self
    c.in-Answered.table c.in-Answered.accept c.in-Answered.ensures c.push_answer.new.tables (part_value c.in-Some.part) c.args.out.now.items c.push_answer.new.out.items
    (ap (option_map part_value) c.in-Some.is) answered)
    c.push_answer.ensures
