use Rattle.clnp_systems.proofs.Redirects.{ignores_redirect}
use Rattle.clnp_systems.proofs.esis.EsisEntity.hear_redirect.Goals as goal

pub returns-then-not-is_router-clause-done : goal.returns-then-not-is_router-clause-done
returns-then-not-is_router-clause-done c =
    ignores_redirect c.give_note.result _ c.args.self.now c.args.now c.args.out.now.items c.give_note.new.out.items c.args.neighbour.now c.args.hold c.args.to c.args.via
    c.self.view_is c.if-not-is_router.ensures c.give_note.ensures.given
