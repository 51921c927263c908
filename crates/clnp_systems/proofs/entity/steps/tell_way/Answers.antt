-- What is told, with a title or none.
use Rattle.std.proofs.Common.{ℕ, [], ◌∷◌, List, Option, subst, None}
use Rattle.std.proofs.lemmas.Result.{on_ok_weaker}
use Rattle.clnp_machine.specs.Pdus.declared.nsap.target.Target.TheVariants.{System}
use Rattle.clnp_machine.specs.Esis.{redirect}
use Rattle.clnp_machine.specs.Given.{Appends}
use Rattle.clnp_machine.specs.System.{SendsEsis}
use Rattle.clnp_systems.proofs.entity.steps.tell_way.Goals as goal

pub returns-clause-given : goal.returns-clause-given
returns-clause-given c =
    on_ok_weaker c.send_redirect.result
    (λ told s moment configuration.
    subst (λ (title : Option (List ℕ)). Appends moment None c.args.out.now.items c.send_redirect.new.out.items
    (SendsEsis c.args.neighbour.port (System c.args.neighbour.snpa) (redirect s c.args.to.now c.args.way.now.neighbour.snpa title) ∷ []))
    c.as_ref-title.ensures.value (told s moment configuration))
    c.send_redirect.ensures.told
