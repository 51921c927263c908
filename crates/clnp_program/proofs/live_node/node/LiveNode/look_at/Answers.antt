-- A port whose link is attached is looked at, and what came is handed on.
use Rattle.std.proofs.Common.{◌≡◌, ◌∙◌, ℕ, true, false, Some, None, take, ap, sym, subst}
use Rattle.std.proofs.lemmas.Result.{IfErr-weaker, on_ok_weaker}
use Rattle.clnp_machine.specs.ClnpPlan.Configuration.{SystemConfiguration}
use Rattle.frame_links.specs.LinkBoard.Links.{CameFrame}
use Rattle.frame_links.specs.LinkBoard.Ports.{ChangesPort, Detaches, LooksAt, PortState, is_attached_at}
use Rattle.clnp_program.specs.declared.live_node.node.Stop.TheVariants as broken
use Rattle.clnp_program.proofs.LiveNode.Breaking.{if_err_with}
use Rattle.clnp_program.proofs.LiveNode.Steps.{looked_linked, looks_broken, looks_empty, looks_lost, looks_nowhere, looks_seen, looks_seen_breaks}
use Rattle.clnp_program.proofs.live_node.node.LiveNode.look_at.Goals as goal

pub returns-then-not-is_attached-clause-plays : goal.returns-then-not-is_attached-clause-plays
returns-then-not-is_attached-clause-plays g c = λ node h.
    let board = g.B.Ports.ports c.args.board.now in
    looks_nowhere c.args.self.now board node c.args.port h (g.K.Sink.written c.args.sink.now)
    (subst (λ (p : ℕ). is_attached_at p board ≡ false) c.from-place.ensures (sym c.is_attached.ensures ∙ c.if-not-is_attached.true))

pub returns-in-Nothing-clause-plays : goal.returns-in-Nothing-clause-plays
returns-in-Nothing-clause-plays g c = λ node h.
    let board = g.B.Ports.ports c.args.board.now in
    let after = g.B.Ports.ports c.look.new.self in
    looks_empty c.args.self.now board node c.args.port h after
    (subst (λ (p : ℕ). is_attached_at p board ≡ true) c.from-place.ensures (sym c.is_attached.ensures ∙ c.if-not-is_attached.false))
    (g.K.Sink.written c.args.sink.now)
    (subst (λ (p : ℕ). ChangesPort p board after (λ (a b : PortState). LooksAt a b None)) c.from-place.ensures c.in-Nothing.ensures.polled)

pub returns-in-Detached-clause-plays : goal.returns-in-Detached-clause-plays
returns-in-Detached-clause-plays g c =
    on_ok_weaker c.write_loss.result (λ written node h.
    let board = g.B.Ports.ports c.args.board.now in
    let after = g.B.Ports.ports c.look.new.self in
    looks_broken c.args.self.now board node c.args.port h after
    (subst (λ (p : ℕ). is_attached_at p board ≡ true) c.from-place.ensures (sym c.is_attached.ensures ∙ c.if-not-is_attached.false))
    (g.K.Sink.written c.args.sink.now) (g.K.Sink.written c.write_loss.new.sink) c.name.result.now
    (c.name.ensures ∙ ap (λ (s : SystemConfiguration). s.name) c.config.ensures)
    (subst (λ (p : ℕ). ChangesPort p board after Detaches) c.from-place.ensures c.in-Detached.ensures.polled) written)
    c.write_loss.ensures.written

pub returns-in-Detached-clause-breaks : goal.returns-in-Detached-clause-breaks
returns-in-Detached-clause-breaks g c =
    if_err_with c.write_loss.result (λ stop written left node h.
    let board = g.B.Ports.ports c.args.board.now in
    let after = g.B.Ports.ports c.look.new.self in
    looks_lost c.args.self.now board node c.args.port h after
    (subst (λ (p : ℕ). is_attached_at p board ≡ true) c.from-place.ensures (sym c.is_attached.ensures ∙ c.if-not-is_attached.false))
    (stop ≡ broken.WriteFault) (g.K.Sink.written c.args.sink.now) (g.K.Sink.written c.write_loss.new.sink) c.name.result.now
    (c.name.ensures ∙ ap (λ (s : SystemConfiguration). s.name) c.config.ensures)
    (subst (λ (p : ℕ). ChangesPort p board after Detaches) c.from-place.ensures c.in-Detached.ensures.polled) written left)
    c.write_loss.ensures.front c.write_loss.ensures.unwritten

pub returns-in-Frame-clause-plays : goal.returns-in-Frame-clause-plays
returns-in-Frame-clause-plays g c =
    on_ok_weaker c.hand.result (λ plays node h.
    let board = g.B.Ports.ports c.args.board.now in
    let after = g.B.Ports.ports c.look.new.self in
    let frame : CameFrame = record { from = c.in-Frame.got.from; to_group = c.in-Frame.got.group; octets = take c.in-Frame.got.len c.look.new.buf } in
    looks_seen c.args.self.now board node c.args.port h after
    (subst (λ (p : ℕ). is_attached_at p board ≡ true) c.from-place.ensures (sym c.is_attached.ensures ∙ c.if-not-is_attached.false))
    c.hand.new.self (g.B.Ports.ports c.hand.new.board) (g.K.Sink.written c.args.sink.now) (g.K.Sink.written c.hand.new.sink) frame
    (subst (λ (p : ℕ). ChangesPort p board after (λ (a b : PortState). LooksAt a b (Some frame))) c.from-place.ensures c.in-Frame.ensures.polled) (plays node))
    c.hand.ensures.plays

pub returns-in-Frame-clause-breaks : goal.returns-in-Frame-clause-breaks
returns-in-Frame-clause-breaks g c =
    IfErr-weaker c.hand.result _ _ (λ stop breaks node h.
    let board = g.B.Ports.ports c.args.board.now in
    let after = g.B.Ports.ports c.look.new.self in
    let frame : CameFrame = record { from = c.in-Frame.got.from; to_group = c.in-Frame.got.group; octets = take c.in-Frame.got.len c.look.new.buf } in
    looks_seen_breaks c.args.self.now board node c.args.port h after
    (subst (λ (p : ℕ). is_attached_at p board ≡ true) c.from-place.ensures (sym c.is_attached.ensures ∙ c.if-not-is_attached.false))
    (stop ≡ broken.WriteFault) (g.B.Ports.ports c.hand.new.board) (g.K.Sink.written c.args.sink.now) (g.K.Sink.written c.hand.new.sink) frame
    (subst (λ (p : ℕ). ChangesPort p board after (λ (a b : PortState). LooksAt a b (Some frame))) c.from-place.ensures c.in-Frame.ensures.polled) (breaks node))
    c.hand.ensures.breaks

pub hand-requires-clause-on : goal.hand-requires-clause-on
hand-requires-clause-on g c =
    let board = g.B.Ports.ports c.args.board.now in
    let after = g.B.Ports.ports c.look.new.self in
    let frame : CameFrame = record { from = c.in-Frame.got.from; to_group = c.in-Frame.got.group; octets = take c.in-Frame.got.len c.look.new.buf } in
    looked_linked board after c.args.port (Some frame)
    (subst (λ (p : ℕ). is_attached_at p board ≡ true) c.from-place.ensures (sym c.is_attached.ensures ∙ c.if-not-is_attached.false))
    (subst (λ (p : ℕ). ChangesPort p board after (λ (a b : PortState). LooksAt a b (Some frame))) c.from-place.ensures c.in-Frame.ensures.polled)
