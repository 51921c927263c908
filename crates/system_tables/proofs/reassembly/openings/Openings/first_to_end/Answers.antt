use Rattle.std.proofs.Common.{◌∙◌, ap, subst, IfSome}
use Rattle.slab.specs.Slab.{get}
use Rattle.std.specs.List.{position_from}
use Rattle.system_tables.specs.Reassembly.Openings.{IsSoonest, ends_at, openings_in}
use Rattle.system_tables.proofs.ReassemblyFacts.InSlots.{place-ending}
use Rattle.system_tables.proofs.ReassemblyFacts.Soonest.{is_soonest}
use Rattle.system_tables.proofs.reassembly.openings.Openings.first_to_end.Goals as goal

pub returns : goal.returns
returns c =
    let t = c.self.inside in
    let found = c.first_at.ensures ∙ ap (λ l. position_from (λ slot. ends_at t.quiet_until (get t.buffers slot)) 0 l) c.deref.ensures.value
    ∙ place-ending (get t.buffers) t.quiet_until 0 t.order.items c.self.invariant.0.taken in
    subst (λ v. IfSome c.first_at.result (IsSoonest v.list)) c.self.view_is
    (is_soonest t.quiet_until (openings_in t.buffers t.order.items) c.first_at.result c.self.invariant.2 found)
