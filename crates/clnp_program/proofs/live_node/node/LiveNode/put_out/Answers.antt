-- A note is written, or a frame goes out.
use Rattle.std.proofs.Common.{◌≡◌, ◌∙◌, List, ap}
use Rattle.std.proofs.lemmas.Result.{IfErr-weaker, on_ok_weaker}
use Rattle.clnp_machine.specs.ClnpPlan.Configuration.{SystemConfiguration}
use Rattle.clnp_machine.specs.LiveModel.Node.{Outcome, Played}
use Rattle.clnp_program.specs.LiveNode.Plays.{Breaks, Plays}
use Rattle.clnp_program.proofs.LiveNode.Steps.{note_cut, puts_frame, puts_note}
use Rattle.clnp_program.specs.declared.live_node.node.Stop.TheVariants as broken
use Rattle.clnp_program.proofs.LiveNode.Breaking.{if_err_with}
use Rattle.clnp_program.proofs.live_node.node.LiveNode.put_out.Goals as goal

pub returns-in-Note-clause-plays : goal.returns-in-Note-clause-plays
returns-in-Note-clause-plays g c =
    on_ok_weaker c.write_note.result (λ written node other h puts.
    puts_note c.args.self.now (g.B.Ports.ports c.args.board.now) node h c.name.result.now
    (c.name.ensures ∙ ap (λ (s : SystemConfiguration). s.name) c.config.ensures) _ _ c.in-Note.note other (rw c.in-Note.is at puts) written) c.write_note.ensures.written

pub returns-in-Note-clause-breaks : goal.returns-in-Note-clause-breaks
returns-in-Note-clause-breaks g c =
    if_err_with c.write_note.result (λ stop written left node other h puts.
    note_cut c.args.self.now (g.B.Ports.ports c.args.board.now) node h c.name.result.now
    (c.name.ensures ∙ ap (λ (s : SystemConfiguration). s.name) c.config.ensures) _ _ (stop ≡ broken.WriteFault) c.in-Note.note other (rw c.in-Note.is at puts) written left)
    c.write_note.ensures.front c.write_note.ensures.unwritten

pub returns-in-Transmit-clause-plays : goal.returns-in-Transmit-clause-plays
returns-in-Transmit-clause-plays g c =
    on_ok_weaker c.transmit.result (λ plays node other h puts.
    puts_frame (λ (play : List Outcome → Played). Plays play node c.transmit.new.self (g.B.Ports.ports c.args.board.now) (g.B.Ports.ports c.transmit.new.board)
    (g.K.Sink.written c.args.sink.now) (g.K.Sink.written c.transmit.new.sink)) c.in-Transmit.sending other node (rw c.in-Transmit.is at puts) (plays node h)) c.transmit.ensures.plays

pub returns-in-Transmit-clause-breaks : goal.returns-in-Transmit-clause-breaks
returns-in-Transmit-clause-breaks g c =
    IfErr-weaker c.transmit.result _ _ (λ stop breaks node other h puts.
    puts_frame (λ (play : List Outcome → Played). Breaks (stop ≡ broken.WriteFault) play node (g.B.Ports.ports c.args.board.now) (g.B.Ports.ports c.transmit.new.board)
    (g.K.Sink.written c.args.sink.now) (g.K.Sink.written c.transmit.new.sink)) c.in-Transmit.sending other node (rw c.in-Transmit.is at puts) (breaks node h)) c.transmit.ensures.breaks
