-- Its entity makes a data unit.
use Rattle.std.proofs.Common.{sym, subst}
use Rattle.std.proofs.lemmas.Result.{on_ok_weaker}
use Rattle.clnp_systems.specs.EntityStands as entity
use Rattle.clnp_systems.specs.EndSystem.State.{HostState}
use Rattle.clnp_systems.proofs.host.EndSystem.send.Goals as goal

pub returns-clause-answer : goal.returns-clause-answer
returns-clause-answer c = λ s h.
    c.make.ensures.answer s (subst (λ (host : HostState). entity.Stands host.entity s) (sym c.self.view_is) h)

pub returns-clause-stands : goal.returns-clause-stands
returns-clause-stands c =
    on_ok_weaker c.make.result (λ stands s h.
    stands s (subst (λ (host : HostState). entity.Stands host.entity s) (sym c.self.view_is) h))
    c.make.ensures.stands
