-- The lifetime is over, or the packet is the system's.
use Rattle.std.proofs.Common.{◌≡◌, ◌∙◌, ℕ, true, false, refl, sym, ap, subst, List, None, arith}
use Rattle.std.specs.Prelude.{◌==◌}
use Rattle.std.proofs.lemmas.Bool.{eq-eqb, ne_eqb}
use Rattle.clnp_machine.specs.PduHeader.Value.{PduValue}
use Rattle.clnp_machine.specs.PduHeader.View.{pdu_value}
use Rattle.clnp_machine.specs.ClnpPlan.Configuration.{SystemConfiguration}
use Rattle.clnp_machine.specs.Content.{Labelled}
use Rattle.clnp_machine.specs.Given.{Appends}
use Rattle.clnp_machine.specs.Local.{discard, has_address, is_own}
use Rattle.clnp_machine.specs.Step.{effect_of}
use Rattle.clnp_machine.specs.System.{SystemState, Output}
use Rattle.clnp_systems.specs.Comes.{HasValue}
use Rattle.clnp_systems.specs.EntityState.{SystemEntityState}
use Rattle.clnp_systems.specs.EntityStands.{PartsStand}
use Rattle.clnp_systems.proofs.Receipt.{expired_after, expired_outputs}
use Rattle.std.proofs.lemmas.Result.{IfOk-from_err}
use Rattle.clnp_systems.proofs.Working.{on_err}
use Rattle.clnp_systems.proofs.entity.SystemEntity.pdu_comes.Goals as goal

pub returns-then-pdu-eq0-clause-comes : goal.returns-then-pdu-eq0-clause-comes
returns-then-pdu-eq0-clause-comes c = λ s p following h carriable frame is.
    let over : (p.lifetime == 0) ≡ true = eq-eqb p.lifetime 0 (sym (ap (λ (v : PduValue). v.lifetime) is) ∙ c.if-pdu-eq0.true) in
    record {
      parts = subst (λ (t : SystemState). PartsStand c.drop_frame.new.self t) (sym (expired_after s p following c.args.neighbour c.args.group over))
          (subst (λ (reason : ℕ). PartsStand c.drop_frame.new.self (discard s (Labelled p following) reason 0).after)
          c.code-reason.ensures (c.in_ok-drop_frame.ensures.stands s (Labelled p following) h carriable (sym frame)));
      outputs = subst (λ (outputs : List Output). Appends s.moment None c.args.out.now.items c.drop_frame.new.out.items outputs)
          (sym (expired_outputs s p following c.args.neighbour c.args.group over))
          (subst (λ (reason : ℕ). Appends s.moment None c.args.out.now.items c.drop_frame.new.out.items (effect_of (discard s (Labelled p following) reason 0)).outputs)
          c.code-reason.ensures (c.in_ok-drop_frame.ensures.outputs s (Labelled p following) h carriable (sym frame)));
    }

pub returns-clause-comes : goal.returns-clause-comes
returns-clause-comes c = λ s p following h carriable frame is.
    let parts = subst (λ (e : SystemEntityState). PartsStand e s) (sym c.self.view_is) h in
    let alive : (p.lifetime == 0) ≡ false = ne_eqb p.lifetime 0 (λ none. c.if-pdu-eq0.false (ap (λ (v : PduValue). v.lifetime) is ∙ none)) in
    let own : is_own s p.unit.destination ≡ true =
    ap (λ (v : PduValue). has_address s.configuration v.destination) (sym is)
    ∙ ap (λ (x : SystemConfiguration). has_address x c.args.pdu.now.to) (sym parts.local.configuration) ∙ sym c.if-not-is_own.ensures in
    record {
      parts = c.in_ok-receive.ensures.stands s p following h carriable frame alive own;
      outputs = c.in_ok-receive.ensures.outputs s p following h carriable frame alive own;
    }

pub drop_frame-requires : goal.drop_frame-requires
drop_frame-requires c = record { at_work = c.requires.at_work; few = c.requires.few }

pub receive-requires : goal.receive-requires
receive-requires c =
    record {
      at_work = c.requires.at_work;
      few = c.requires.few;
      front = c.requires.front;
      header = c.requires.header;
      alive = omega (arith, c.if-pdu-eq0.false);
    }

pub returns-in_err-drop_frame-clause-comes : goal.returns-in_err-drop_frame-clause-comes
returns-in_err-drop_frame-clause-comes c = IfOk-from_err c.from_residual.result _ c.from_residual.ensures.0

pub returns-in_err-drop_frame-clause-left : goal.returns-in_err-drop_frame-clause-left
returns-in_err-drop_frame-clause-left c = IfOk-from_err c.from_residual.result _ c.from_residual.ensures.0

pub returns-in_err-drop_frame-clause-pdu : goal.returns-in_err-drop_frame-clause-pdu
returns-in_err-drop_frame-clause-pdu c = IfOk-from_err c.from_residual.result _ c.from_residual.ensures.0

pub returns-in_err-drop_frame-clause-none : goal.returns-in_err-drop_frame-clause-none
returns-in_err-drop_frame-clause-none c = on_err c.from_residual.result c.in_err-drop_frame.ensures.none

pub returns-in_err-receive-clause-comes : goal.returns-in_err-receive-clause-comes
returns-in_err-receive-clause-comes c = IfOk-from_err c.from_residual-in_err-receive.result _ c.from_residual-in_err-receive.ensures.0

pub returns-in_err-receive-clause-left : goal.returns-in_err-receive-clause-left
returns-in_err-receive-clause-left c = IfOk-from_err c.from_residual-in_err-receive.result _ c.from_residual-in_err-receive.ensures.0

pub returns-in_err-receive-clause-pdu : goal.returns-in_err-receive-clause-pdu
returns-in_err-receive-clause-pdu c = IfOk-from_err c.from_residual-in_err-receive.result _ c.from_residual-in_err-receive.ensures.0

pub returns-in_err-receive-clause-none : goal.returns-in_err-receive-clause-none
returns-in_err-receive-clause-none c = on_err c.from_residual-in_err-receive.result c.in_err-receive.ensures.none

pub returns-then-not-is_own-clause-pdu : goal.returns-then-not-is_own-clause-pdu
returns-then-not-is_own-clause-pdu c =
    record { value = pdu_value c.args.pdu.now; following = c.args.pdu.now.rest.now; has_value = c.of.ensures; begins = c.requires.front }

pub returns-then-not-is_own-clause-comes : goal.returns-then-not-is_own-clause-comes
returns-then-not-is_own-clause-comes c = λ s p following h carriable frame is.
    let parts = subst (λ (e : SystemEntityState). PartsStand e s) (sym c.self.view_is) h in
    record {
      packet = p;
      following = following;
      content_is = refl;
      carriable = carriable;
      alive = ne_eqb p.lifetime 0 (λ none. c.if-pdu-eq0.false (ap (λ (v : PduValue). v.lifetime) is ∙ none));
      has_value = subst (λ (v : PduValue). HasValue c.of.result v) is c.of.ensures;
      not_own = ap (λ (v : PduValue). has_address s.configuration v.destination) (sym is)
          ∙ ap (λ (x : SystemConfiguration). has_address x c.args.pdu.now.to) (sym parts.local.configuration) ∙ sym c.if-not-is_own.ensures;
    }
