use Rattle.std.proofs.Common.{◌∙◌, ap, sym, arith}
use Rattle.clnp_machine.specs.ClnpPlan.Configuration.{SystemConfiguration}
use Rattle.clnp_machine.specs.ClnpPlan.declared.config.Role.{Role}
use Rattle.clnp_machine.specs.Esis.{hearers, own_hello}
use Rattle.clnp_systems.proofs.Fronts.{front_more}
use Rattle.clnp_systems.proofs.Saying.{all_said, one_said}
use Rattle.clnp_systems.proofs.esis.hellos.say_everywhere.Goals as goal

pub loop-port-preserved : goal.loop-port-preserved
loop-port-preserved c = record {
  said = λ s moment same period.
      one_said moment c.args.out.now.items c.loop-port.out.items c.send.new.out.items s c.loop-port.port c.hearers.result
      (c.loop-port.invariant.said s moment same period)
      (c.in_ok-send.ensures.given moment (own_hello s) (c.hello-pdu.ensures s same period))
      (c.hearers.ensures ∙ ap (λ (role : Role). hearers role) (c.role.ensures ∙ ap (λ (configuration : SystemConfiguration). configuration.role) (sym same)));
  front = front_more c.args.out.now.items c.loop-port.out.items c.send.new.out.items c.loop-port.invariant.front c.send.ensures.front;
}

pub returns-clause-said : goal.returns-clause-said
returns-clause-said c = λ s moment same number period.
    all_said moment c.args.out.now.items c.loop-port.out.items s c.loop-port.port
    (omega (arith, c.loop-port-test.false, number))
    (c.loop-port.invariant.said s moment same period)
