-- A note is written, or a frame put on a subnetwork.
use Rattle.std.proofs.Common.{◌∙◌, ap, sym}
use Rattle.std.proofs.lemmas.Option.{get_or_from_slice_get}
use Rattle.std.proofs.lemmas.Result.{on_ok_weaker}
use Rattle.clnp_program.proofs.ClnpWorld.PutSteps.{puts_note, puts_transmission}
use Rattle.clnp_program.specs.declared.clnp_world.network.Network.{Network}
use Rattle.clnp_program.proofs.clnp_world.network.Network.put_out.Goals as goal

pub returns-in_ok-write_transmission-in-Transmit-clause-puts : goal.returns-in_ok-write_transmission-in-Transmit-clause-puts
returns-in_ok-write_transmission-in-Transmit-clause-puts g c =
    on_ok_weaker c.put_copy.result (λ put output at.
    let read = sym (c.index.ensures ∙ get_or_from_slice_get c.args.self.now.outputs.items c.args.at output c.index.result.now at) in
    puts_transmission c.args.self.now c.put_copy.new.self (g.L.LineSink.taken c.args.lines.now) (g.L.LineSink.taken c.write_transmission.new.lines) c.args.place
    c.args.came c.origin_of-origin.result c.in-Transmit.sending c.in_ok-frame-in-Transmit.frame output (read ∙ c.in-Transmit.is)
    c.in_ok-frame-in-Transmit.ensures c.origin_of-origin.ensures
    c.in_ok-write_transmission-in-Transmit.ensures put c.put_copy.ensures.others)
    c.put_copy.ensures.puts

pub returns-in-Note-clause-puts : goal.returns-in-Note-clause-puts
returns-in-Note-clause-puts g c =
    on_ok_weaker c.write_note.result (λ writes output at.
    let read = sym (c.index.ensures ∙ get_or_from_slice_get c.args.self.now.outputs.items c.args.at output c.index.result.now at) in
    puts_note c.args.self.now (g.L.LineSink.taken c.args.lines.now) (g.L.LineSink.taken c.write_note.new.lines) c.args.place c.args.came
    c.in-Note.note output (read ∙ c.in-Note.is) writes)
    c.write_note.ensures

pub returns-in_ok-write_transmission-in-Transmit-clause-systems : goal.returns-in_ok-write_transmission-in-Transmit-clause-systems
returns-in_ok-write_transmission-in-Transmit-clause-systems g c = ap (λ (n : Network). n.systems) c.put_copy.ensures.others

pub returns-in_ok-write_transmission-in-Transmit-clause-clock : goal.returns-in_ok-write_transmission-in-Transmit-clause-clock
returns-in_ok-write_transmission-in-Transmit-clause-clock g c = ap (λ (n : Network). n.clock) c.put_copy.ensures.others

pub returns-in_ok-write_transmission-in-Transmit-clause-outputs : goal.returns-in_ok-write_transmission-in-Transmit-clause-outputs
returns-in_ok-write_transmission-in-Transmit-clause-outputs g c = ap (λ (n : Network). n.outputs) c.put_copy.ensures.others

pub returns-in_ok-write_transmission-in-Transmit-clause-copies : goal.returns-in_ok-write_transmission-in-Transmit-clause-copies
returns-in_ok-write_transmission-in-Transmit-clause-copies g c = c.put_copy.ensures.more
