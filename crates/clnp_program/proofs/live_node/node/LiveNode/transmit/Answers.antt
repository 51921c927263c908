-- A frame is written, and sent where its port has its link.
use Rattle.std.proofs.Common.{◌≡◌, ◌∙◌, ℕ, true, false, List, ap, sym, subst, arith}
use Rattle.std.proofs.lemmas.Result.{err_from_is_err_and, on_ok_weaker}
use Rattle.clnp_machine.specs.ClnpPlan.Configuration.{SystemConfiguration}
use Rattle.clnp_systems.specs.Stands as clnp_systems
use Rattle.frame_links.specs.LinkBoard.Ports.{ChangesPort, Detaches, PortState, SendsOn, is_attached_at}
use Rattle.clnp_program.specs.declared.live_node.node.Stop.TheVariants as broken
use Rattle.clnp_program.proofs.LiveNode.Breaking.{if_err_with}
use Rattle.clnp_program.proofs.LiveNode.Steps.{past_end, sending_of, transmits_alone, transmits_broken, transmits_cut, transmits_lost, transmits_taken}
use Rattle.clnp_program.proofs.live_node.node.LiveNode.transmit.Goals.{then-port-count-via-then-port-count, then-port-count-via-else-port-count+then-not-is_attached}
use Rattle.clnp_program.proofs.live_node.node.LiveNode.transmit.Goals as goal

pub returns-in_err-write_transmission-clause-breaks : goal.returns-in_err-write_transmission-clause-breaks
returns-in_err-write_transmission-clause-breaks g c =
    let p = err_from_is_err_and c.from_residual.result c.from_residual.ensures.1 in
    rw (p.1, p.2) (λ node h.
    let live = c.args.self.now in
    let board = g.B.Ports.ports c.args.board.now in
    let old = g.K.Sink.written c.args.sink.now in
    let new = g.K.Sink.written c.write_transmission.new.sink in
    let sent = sending_of c.args.sending.now in
    let name = c.name-name.result.now in
    let named : name ≡ (clnp_systems.configuration_of live.system).name = c.name-name.ensures ∙ ap (λ (s : SystemConfiguration). s.name) c.config.ensures in
    transmits_cut live board board node h sent name name c.saturating_add-self.result named named c.saturating_add-self.ensures old old new _
    c.in_err-write_transmission.ensures.front c.in_err-write_transmission.ensures.unwritten)

pub returns-then-port-count-clause-plays : goal.returns-then-port-count-clause-plays
returns-then-port-count-clause-plays g c = λ node h.
    let live = c.args.self.now in
    let board = g.B.Ports.ports c.args.board.now in
    let old = g.K.Sink.written c.args.sink.now in
    let new = g.K.Sink.written c.write_transmission.new.sink in
    let sent = sending_of c.args.sending.now in
    let name = c.name-name.result.now in
    let named : name ≡ (clnp_systems.configuration_of live.system).name = c.name-name.ensures ∙ ap (λ (s : SystemConfiguration). s.name) c.config.ensures in
    let off : is_attached_at c.args.sending.now.port board ≡ false =
    elim c.then-port-count.branch [
      | then-port-count-via-then-port-count w ↦ past_end board c.args.sending.now.port (omega (arith, c.count.ensures, c.from-port.ensures, w.if-port-count.true))
      | then-port-count-via-else-port-count+then-not-is_attached w ↦
          subst (λ (p : ℕ). is_attached_at p board ≡ false) c.from-port.ensures (sym w.is_attached.ensures ∙ w.if-not-is_attached.true)
    ] in
    transmits_alone live board board node h sent name name c.saturating_add-self.result named named c.saturating_add-self.ensures old old new off
    c.in_ok-write_transmission.ensures.written

pub returns-in-Done-clause-plays : goal.returns-in-Done-clause-plays
returns-in-Done-clause-plays g c = λ node h.
    let live = c.args.self.now in
    let board = g.B.Ports.ports c.args.board.now in
    let after = g.B.Ports.ports c.put.new.self in
    let old = g.K.Sink.written c.args.sink.now in
    let new = g.K.Sink.written c.write_transmission.new.sink in
    let sent = sending_of c.args.sending.now in
    let name = c.name-name.result.now in
    let named : name ≡ (clnp_systems.configuration_of live.system).name = c.name-name.ensures ∙ ap (λ (s : SystemConfiguration). s.name) c.config.ensures in
    let on : is_attached_at c.args.sending.now.port board ≡ true =
    subst (λ (p : ℕ). is_attached_at p board ≡ true) c.from-port.ensures (sym c.is_attached.ensures ∙ c.if-not-is_attached.false) in
    let change : ChangesPort c.args.sending.now.port board after (λ (a b : PortState). SendsOn a b sent.frame) =
    subst (λ (p : ℕ). ChangesPort p board after (λ (a b : PortState). SendsOn a b sent.frame)) c.from-port.ensures
    (subst (λ (octets : List ℕ). ChangesPort c.from-port.result board after (λ (a b : PortState). SendsOn a b (record { target = c.args.sending.now.to; octets = octets })))
    c.parts.ensures.octets c.in-Done.ensures) in
    transmits_taken live board after node h sent name name c.saturating_add-self.result named named c.saturating_add-self.ensures old old new on change
    c.in_ok-write_transmission.ensures.written

pub returns-in-Detached-clause-plays : goal.returns-in-Detached-clause-plays
returns-in-Detached-clause-plays g c =
    on_ok_weaker c.write_loss.result (λ lost node h.
    let live = c.args.self.now in
    let board = g.B.Ports.ports c.args.board.now in
    let after = g.B.Ports.ports c.put.new.self in
    let old = g.K.Sink.written c.args.sink.now in
    let mid = g.K.Sink.written c.write_transmission.new.sink in
    let sent = sending_of c.args.sending.now in
    let name = c.name-name.result.now in
    let named : name ≡ (clnp_systems.configuration_of live.system).name = c.name-name.ensures ∙ ap (λ (s : SystemConfiguration). s.name) c.config.ensures in
    let owned : c.name.result.now ≡ (clnp_systems.configuration_of live.system).name = c.name.ensures ∙ ap (λ (s : SystemConfiguration). s.name) c.config-in-Detached.ensures in
    let on : is_attached_at c.args.sending.now.port board ≡ true =
    subst (λ (p : ℕ). is_attached_at p board ≡ true) c.from-port.ensures (sym c.is_attached.ensures ∙ c.if-not-is_attached.false) in
    transmits_broken live board after node h sent name c.name.result.now c.saturating_add-self.result named owned c.saturating_add-self.ensures
    old mid (g.K.Sink.written c.write_loss.new.sink) on
    (subst (λ (p : ℕ). ChangesPort p board after Detaches) c.from-port.ensures c.in-Detached.ensures)
    c.in_ok-write_transmission.ensures.written lost)
    c.write_loss.ensures.written

pub returns-in-Detached-clause-breaks : goal.returns-in-Detached-clause-breaks
returns-in-Detached-clause-breaks g c =
    if_err_with c.write_loss.result (λ stop lost left node h.
    let live = c.args.self.now in
    let board = g.B.Ports.ports c.args.board.now in
    let after = g.B.Ports.ports c.put.new.self in
    let old = g.K.Sink.written c.args.sink.now in
    let mid = g.K.Sink.written c.write_transmission.new.sink in
    let sent = sending_of c.args.sending.now in
    let name = c.name-name.result.now in
    let named : name ≡ (clnp_systems.configuration_of live.system).name = c.name-name.ensures ∙ ap (λ (s : SystemConfiguration). s.name) c.config.ensures in
    let owned : c.name.result.now ≡ (clnp_systems.configuration_of live.system).name = c.name.ensures ∙ ap (λ (s : SystemConfiguration). s.name) c.config-in-Detached.ensures in
    let on : is_attached_at c.args.sending.now.port board ≡ true =
    subst (λ (p : ℕ). is_attached_at p board ≡ true) c.from-port.ensures (sym c.is_attached.ensures ∙ c.if-not-is_attached.false) in
    transmits_lost live board after node h sent name c.name.result.now c.saturating_add-self.result named owned c.saturating_add-self.ensures
    old mid (g.K.Sink.written c.write_loss.new.sink) (stop ≡ broken.WriteFault) on
    (subst (λ (p : ℕ). ChangesPort p board after Detaches) c.from-port.ensures c.in-Detached.ensures)
    c.in_ok-write_transmission.ensures.written lost left)
    c.write_loss.ensures.front c.write_loss.ensures.unwritten
