use Rattle.std.proofs.Common.{◌∙◌, ◌++◌, ◌∷◌, [], List, sym, ap, subst, arith}
use Rattle.clnp_systems.specs.declared.pending.Request.{Request}
use Rattle.clnp_systems.specs.declared.pending.Pending.TheInside.{Inside}
use Rattle.clnp_systems.specs.Local.{AreRequests}
use Rattle.clnp_machine.specs.Local.{with_made}
use Rattle.clnp_systems.proofs.Requests.{noted_few, noted_many}
use Rattle.clnp_systems.proofs.pending.Pending.note.Goals as goal
use Rattle.clnp_systems.proofs.pending.Pending.note.Goals.{then-len-ge-MOST, else-len-ge-MOST}

pub returns : goal.returns
returns c = λ kind pending u noted are e is.
    let here = subst (λ (l : List Request). AreRequests l pending) (sym c.self.view_is) are in
    subst (λ (l : List Request). AreRequests l (with_made kind pending u)) (sym c.push_reserved.ensures.items)
    (elim c.if-len-ge-MOST.branch [
      | then-len-ge-MOST w ↦
          subst (λ (l : List Request). AreRequests (l ++ c.in-Some.request ∷ []) (with_made kind pending u))
          (sym (ap (λ (i : Inside). i.requests.items) w.self-inside-is ∙ w.remove.ensures.items))
          (noted_many kind c.self.inside.requests.items pending c.in-Some.request noted u (sym c.in-Some.is ∙ e) here is (omega arith))
      | else-len-ge-MOST w ↦
          subst (λ (l : List Request). AreRequests (l ++ c.in-Some.request ∷ []) (with_made kind pending u))
          (sym (ap (λ (i : Inside). i.requests.items) w.self-inside-is))
          (noted_few kind c.self.inside.requests.items pending c.in-Some.request noted u (sym c.in-Some.is ∙ e) here is (omega arith))
    ])
