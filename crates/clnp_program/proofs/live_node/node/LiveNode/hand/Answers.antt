-- A frame comes to the system.
use Rattle.std.proofs.Common.{◌∙◌, Some, refl, sym, arith}
use Rattle.std.proofs.lemmas.Result.{IfErr-weaker, on_ok_weaker}
use Rattle.hex.specs.Hex.{IsBytes}
use Rattle.clnp_machine.specs.Content.{content_of}
use Rattle.clnp_machine.specs.System.{number_behind}
use Rattle.frame_links.specs.LinkBoard.Links.{CameFrame}
use Rattle.clnp_machine.specs.LiveModel.Node.{comes, frame_at, polls, sees}
use Rattle.clnp_program.proofs.LiveNode.Breaking.{breaks_as, breaks_nothing, idle_sees}
use Rattle.clnp_program.proofs.LiveNode.Playing.{plays_as}
use Rattle.clnp_program.proofs.LiveNode.Steps.{polls_stands}
use Rattle.std.proofs.Common.{inr}
use Rattle.clnp_program.proofs.LiveNode.Breaking.{breaks_for, linked_noticed, more_linked, noticed, same_links}
use Rattle.clnp_program.proofs.live_node.node.LiveNode.hand.Goals as goal

pub returns-in_default-clause-breaks : goal.returns-in_default-clause-breaks
returns-in_default-clause-breaks g c = λ node h.
    let frame : CameFrame = record { from = c.args.from; to_group = c.args.group; octets = c.args.octets.now } in
    breaks_nothing _ (sees node c.args.port (Some frame)) node (g.B.Ports.ports c.args.board.now) (g.K.Sink.written c.args.sink.now) (idle_sees c.args.port (Some frame) node) h.attached
    (inr (more_linked node _ _ (idle_sees c.args.port (Some frame) node) (same_links c.args.self.now (g.B.Ports.ports c.args.board.now) node h ∙ c.requires.on)))

pub returns-clause-plays : goal.returns-clause-plays
returns-clause-plays g c =
    on_ok_weaker c.comes.result (λ plays node h.
    let board = g.B.Ports.ports c.args.board.now in
    let frame : CameFrame = record { from = c.args.from; to_group = c.args.group; octets = c.args.octets.now } in
    let number = number_behind node.polled in
    let moment = node.system.moment in
    let bytes : IsBytes c.args.octets.now = λ i. omega (arith, c.type_inv.octets i) in
    plays_as (comes (polls node) (frame_at number moment c.args.port frame)) (sees node c.args.port (Some frame)) (polls node) node c.comes.new.self
    board (g.B.Ports.ports c.comes.new.board) (g.K.Sink.written c.args.sink.now) (g.K.Sink.written c.comes.new.sink) (λ outcomes. refl) refl
    (plays (polls node) (content_of number moment c.args.octets.now) (polls_stands c.args.self.now board node c.saturating_add-self.result h c.saturating_add-self.ensures) (
      c.octets_have_a_content.ensures.carried number moment c.args.octets.now bytes,
      c.octets_have_a_content.ensures.frame number moment c.args.octets.now bytes ∙ sym c.in-Ok.ensures,
    )))
    c.comes.ensures.plays

pub returns-clause-breaks : goal.returns-clause-breaks
returns-clause-breaks g c =
    IfErr-weaker c.comes.result _ _ (λ stop breaks node h.
    let board = g.B.Ports.ports c.args.board.now in
    let frame : CameFrame = record { from = c.args.from; to_group = c.args.group; octets = c.args.octets.now } in
    let number = number_behind node.polled in
    let moment = node.system.moment in
    let bytes : IsBytes c.args.octets.now = λ i. omega (arith, c.type_inv.octets i) in
    breaks_as _ (comes (polls node) (frame_at number moment c.args.port frame)) (sees node c.args.port (Some frame)) (polls node) node
    board (g.B.Ports.ports c.comes.new.board) (g.K.Sink.written c.args.sink.now) (g.K.Sink.written c.comes.new.sink) (λ outcomes. refl) refl
    (breaks_for _ _ _ (polls node) _ _ _ _ (noticed (linked_noticed (polls node) _ (same_links c.args.self.now (g.B.Ports.ports c.args.board.now) node h ∙ c.requires.on)))
    (breaks (polls node) (content_of number moment c.args.octets.now) (polls_stands c.args.self.now board node c.saturating_add-self.result h c.saturating_add-self.ensures) (
      c.octets_have_a_content.ensures.carried number moment c.args.octets.now bytes,
      c.octets_have_a_content.ensures.frame number moment c.args.octets.now bytes ∙ sym c.in-Ok.ensures,
    ))))
    c.comes.ensures.breaks

pub returns-clause-moment : goal.returns-clause-moment
returns-clause-moment g c =
    on_ok_weaker c.comes.result (λ same.
    let bytes : IsBytes c.args.octets.now = λ i. omega (arith, c.type_inv.octets i) in
    same (content_of 0 0 c.args.octets.now)
    (c.octets_have_a_content.ensures.carried 0 0 c.args.octets.now bytes, c.octets_have_a_content.ensures.frame 0 0 c.args.octets.now bytes ∙ sym c.in-Ok.ensures))
    c.comes.ensures.moment

pub returns-clause-config : goal.returns-clause-config
returns-clause-config g c =
    let bytes : IsBytes c.args.octets.now = λ i. omega (arith, c.type_inv.octets i) in
    c.comes.ensures.config (content_of 0 0 c.args.octets.now)
    (c.octets_have_a_content.ensures.carried 0 0 c.args.octets.now bytes, c.octets_have_a_content.ensures.frame 0 0 c.args.octets.now bytes ∙ sym c.in-Ok.ensures)
