-- A request is a unit that is made as its definition asks.
use Rattle.std.proofs.Common.{sym, subst}
use Rattle.std.proofs.lemmas.Result.{on_ok_weaker}
use Rattle.clnp_machine.specs.Pdus.declared.pdu_header.kind.Kind.TheVariants.{Erq}
use Rattle.clnp_machine.specs.ClnpPlan.declared.ask.Ask.{Ask}
use Rattle.clnp_machine.specs.Local as locally
use Rattle.clnp_machine.specs.System.{SystemState}
use Rattle.clnp_systems.specs.Deeds.{DoesDeed}
use Rattle.clnp_systems.specs.EntityState.{SystemEntityState}
use Rattle.clnp_systems.specs.EntityStands.{Stands}
use Rattle.clnp_systems.proofs.entity.SystemEntity.echo_or_note.Goals as goal

pub returns-clause-step : goal.returns-clause-step
returns-clause-step c =
    on_ok_weaker c.make_or_note.result (λ did role.
    let does = λ (s : SystemState) (h : Stands c.args.self.now s).
    subst (λ (ask : Ask). DoesDeed s.moment (locally.make s Erq c.args.from c.args.to c.args.body.now ask)
    c.make_or_note.new.self c.args.out.now.items c.make_or_note.new.out.items)
    (c.echo_ask-ask.ensures.value s (subst (λ (e : SystemEntityState). Stands e s) (sym c.self.view_is) h).parts.local) (did s h) in
    record {
      stands = λ s h. (does s h).stands;
      outputs = λ s h. (does s h).outputs;
      moment = c.make_or_note.ensures.moment;
      config = c.make_or_note.ensures.config;
    })
    c.make_or_note.ensures.did
