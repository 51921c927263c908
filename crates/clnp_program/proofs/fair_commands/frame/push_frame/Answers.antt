use Rattle.std.proofs.Common.{ap}
use Rattle.scenario.specs.PduHeader.Value.{PduValue}
use Rattle.system_tables.specs.FairReassembly.Tables.{place_of}
use Rattle.clnp_program.proofs.FairCommands.Arriving.{goes_on_pdu, goes_on_unread}
use Rattle.clnp_program.proofs.FairCommands.Frames.{on_ok}
use Rattle.clnp_program.proofs.fair_commands.frame.push_frame.Goals as goal

pub returns-in-Ok : goal.returns-in-Ok
returns-in-Ok c =
    let old = c.args.tables.now in
    let accepted = c.in-Ok.ensures.judged in
    on_ok c.push_pdu.result _ _ (λ tells s before behind.
    goes_on_pdu s before c.args.came.now c.args.out.now.items c.push_pdu.new.out.items c.tables_stand_behind_each_frame.ensures.comes
    (place_of old.sources c.in-Ok.pdu.from) old c.push_pdu.new.tables
    (ap (λ (v : PduValue). place_of old.sources v.source) c.push_pdu.ensures.value) accepted tells behind)
    c.push_pdu.ensures.tells

pub returns-in-Err : goal.returns-in-Err
returns-in-Err c =
    let refused = c.in-Err.ensures.judged in
    on_ok c.push_told.result _ _ (λ line s before behind.
    goes_on_unread s before c.args.came.now c.args.out.now.items c.push_told.new.out.items c.tables_stand_behind_each_frame.ensures.unread
    c.args.tables.now c.in-Err.field-0 refused line behind)
    c.push_told.ensures
