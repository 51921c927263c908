-- The frame is a packet's, or refused.
use Rattle.std.proofs.Common.{◌∙◌, sym, ap, subst, Some, None}
use Rattle.std.proofs.lemmas.Result.{IfOk-weaker}
use Rattle.clnp_machine.specs.PduHeader.View.{pdu_value}
use Rattle.clnp_machine.specs.Given.{Appends}
use Rattle.clnp_machine.specs.System.{Effect}
use Rattle.clnp_systems.specs.Comes.{ComesOf}
use Rattle.clnp_systems.specs.EntityStands.{PartsStand}
use Rattle.clnp_systems.proofs.Arrivals.{frame_broken, packet_found}
use Rattle.std.proofs.lemmas.Result.{IfOk-from_err}
use Rattle.clnp_systems.proofs.Working.{on_err}
use Rattle.clnp_systems.proofs.entity.SystemEntity.arrive.Goals as goal

pub returns-in-Ok-clause-comes : goal.returns-in-Ok-clause-comes
returns-in-Ok-clause-comes c =
    IfOk-weaker c.pdu_comes.result _ _
    (λ arrival comes s content h carried frame.
    packet_found c.a_frame_carries_one_packet.ensures c.no_frame_is_of_both_protocols.ensures.esis
    (λ content. ComesOf arrival s c.args.neighbour c.args.group content c.pdu_comes.new.self c.args.out.now.items c.pdu_comes.new.out.items)
    c.args.frame.now (pdu_value c.in-Ok.pdu) c.in-Ok.pdu.rest.now c.in-Ok.ensures.found c.in-Ok.ensures.accepted.0 content carried frame
    (λ p following carriable same value. comes s p following h carriable same value))
    c.pdu_comes.ensures.comes

pub returns-in_ok-drop_frame-in-Err-Broken-clause-comes : goal.returns-in_ok-drop_frame-in-Err-Broken-clause-comes
returns-in_ok-drop_frame-in-Err-Broken-clause-comes c = λ s content h carried frame.
    let same = frame_broken c.no_frame_is_of_both_protocols.ensures.esis s c.args.neighbour c.args.group c.args.frame.now c.in-Err-Broken.broken
    (c.in-Err-Broken.ensures.judged ∙ ap Some c.in-Err-Broken.field-0-is) c.in-Err-Broken.ensures.none content carried frame in
    record {
      parts = subst (λ (e : Effect). PartsStand c.drop_frame.new.self e.after) same
          (c.in_ok-drop_frame-in-Err-Broken.ensures.stands s content h carried frame);
      outputs = subst (λ (e : Effect). Appends s.moment None c.args.out.now.items c.drop_frame.new.out.items e.outputs) same
          (c.in_ok-drop_frame-in-Err-Broken.ensures.outputs s content h carried frame);
    }

pub drop_frame-requires : goal.drop_frame-requires
drop_frame-requires c = record { at_work = c.requires.at_work; few = c.requires.few }

pub pdu_comes-requires : goal.pdu_comes-requires
pdu_comes-requires c =
    record { at_work = c.requires.at_work; few = c.requires.few; front = c.in-Ok.ensures.found; header = c.in-Ok.ensures.spells }

pub returns-in_err-drop_frame-in-Err-Broken-clause-comes : goal.returns-in_err-drop_frame-in-Err-Broken-clause-comes
returns-in_err-drop_frame-in-Err-Broken-clause-comes c = IfOk-from_err c.from_residual.result _ c.from_residual.ensures.0

pub returns-in_err-drop_frame-in-Err-Broken-clause-left : goal.returns-in_err-drop_frame-in-Err-Broken-clause-left
returns-in_err-drop_frame-in-Err-Broken-clause-left c = IfOk-from_err c.from_residual.result _ c.from_residual.ensures.0

pub returns-in_err-drop_frame-in-Err-Broken-clause-pdu : goal.returns-in_err-drop_frame-in-Err-Broken-clause-pdu
returns-in_err-drop_frame-in-Err-Broken-clause-pdu c = IfOk-from_err c.from_residual.result _ c.from_residual.ensures.0

pub returns-in_err-drop_frame-in-Err-Broken-clause-none : goal.returns-in_err-drop_frame-in-Err-Broken-clause-none
returns-in_err-drop_frame-in-Err-Broken-clause-none c = on_err c.from_residual.result c.in_err-drop_frame-in-Err-Broken.ensures.none

pub returns-in_err-other_comes-in-Err-NotClnp-clause-comes : goal.returns-in_err-other_comes-in-Err-NotClnp-clause-comes
returns-in_err-other_comes-in-Err-NotClnp-clause-comes c = IfOk-from_err c.from_residual-in_err-other_comes-in-Err-NotClnp.result _ c.from_residual-in_err-other_comes-in-Err-NotClnp.ensures.0

pub returns-in_err-other_comes-in-Err-NotClnp-clause-left : goal.returns-in_err-other_comes-in-Err-NotClnp-clause-left
returns-in_err-other_comes-in-Err-NotClnp-clause-left c = IfOk-from_err c.from_residual-in_err-other_comes-in-Err-NotClnp.result _ c.from_residual-in_err-other_comes-in-Err-NotClnp.ensures.0

pub returns-in_err-other_comes-in-Err-NotClnp-clause-pdu : goal.returns-in_err-other_comes-in-Err-NotClnp-clause-pdu
returns-in_err-other_comes-in-Err-NotClnp-clause-pdu c = IfOk-from_err c.from_residual-in_err-other_comes-in-Err-NotClnp.result _ c.from_residual-in_err-other_comes-in-Err-NotClnp.ensures.0

pub returns-in_err-other_comes-in-Err-NotClnp-clause-none : goal.returns-in_err-other_comes-in-Err-NotClnp-clause-none
returns-in_err-other_comes-in-Err-NotClnp-clause-none c = on_err c.from_residual-in_err-other_comes-in-Err-NotClnp.result c.in_err-other_comes-in-Err-NotClnp.ensures.none

pub returns-in_ok-other_comes-in-Err-NotClnp-clause-comes : goal.returns-in_ok-other_comes-in-Err-NotClnp-clause-comes
returns-in_ok-other_comes-in-Err-NotClnp-clause-comes c = λ s content h carried frame. record {
  parts = c.in_ok-other_comes-in-Err-NotClnp.ensures.stands s c.args.group content h carried frame;
  outputs = c.in_ok-other_comes-in-Err-NotClnp.ensures.outputs s c.args.group content h carried frame;
}
