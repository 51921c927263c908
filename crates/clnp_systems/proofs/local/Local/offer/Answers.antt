use Rattle.std.proofs.Common.{◌≡◌, ◌≤◌, ℕ, List, ap, refl, sym, ◌∙◌, subst}
use Rattle.std.proofs.Math.Seq.{take-length}
use Rattle.std.proofs.lemmas.Result.{on_ok_weaker}
use Rattle.clnp_machine.specs.ClnpViews.Extent.{seen}
use Rattle.clnp_machine.specs.Reassembly.Arrival.{Arrival, arrival_of, octet_in}
use Rattle.clnp_machine.specs.Reassembly.Buffer.{after, data_of}
use Rattle.clnp_machine.specs.SystemTables.declared.reassembly.table.TableLimits.{TableLimits}
use Rattle.clnp_machine.specs.Reassembly.State.{IsReady, TableState, said}
use Rattle.clnp_machine.specs.Local.{Deed, hand_up, takes_in}
use Rattle.clnp_systems.specs.declared.action.Action.{Action}
use Rattle.clnp_systems.specs.declared.endpoint.Endpoint.{Endpoint}
use Rattle.clnp_systems.specs.Endpoint.{entity_of}
use Rattle.clnp_systems.specs.Local.{Appends, Stands}
use Rattle.clnp_systems.specs.LocalState.{EntityState}
use Rattle.clnp_systems.specs.LocalSeen.{state_of}
use Rattle.clnp_systems.proofs.Completed.{completed, data_at}
use Rattle.clnp_systems.proofs.Offering.{kept_stands, offer_is, others, told_ready, told_stands, whole_appends, whole_ready, whole_stands}
use Rattle.clnp_systems.proofs.local.Local.offer.Goals as goal
use Rattle.clnp_systems.proofs.Buffers.{said_not_whole}

pub hand_up_whole-requires-clause-whole : goal.hand_up_whole-requires-clause-whole
hand_up_whole-requires-clause-whole c = c.accept.ensures.whole c.in-Whole.slot c.in-Whole.is

pub undo-requires : goal.undo-requires
undo-requires c = c.accept.ensures.whole c.in-Whole.slot c.in-Whole.is

pub release-requires : goal.release-requires
release-requires c = c.accept.ensures.whole c.in-Whole.slot c.in-Whole.is

pub invariant_of-self : goal.invariant_of-self
invariant_of-self c = record {
  hold = subst (λ (l : TableLimits). 1 ≤ l.hold) (sym (c.undo.ensures.limits ∙ c.accept.ensures.limits)) c.self.invariant.hold;
  none_whole = c.undo.ensures.none_whole (c.accept.ensures.completed c.in-Whole.slot c.in-Whole.is);
}

pub invariant_of-self-in-Whole-1 : goal.invariant_of-self-in-Whole-1
invariant_of-self-in-Whole-1 c = record {
  hold = subst (λ (l : TableLimits). 1 ≤ l.hold) (sym (c.release.ensures.limits ∙ c.accept.ensures.limits)) c.self.invariant.hold;
  none_whole = c.release.ensures.none_whole (c.accept.ensures.completed c.in-Whole.slot c.in-Whole.is);
}

-- where it isn't handed up, the table is as before the segment came
undone : (c : goal.After-drop-frame-inside-in_default-hand_up_whole) → c.undo.new.self ≡ c.self.inside.table
undone c =
    c.undo.ensures.as_before c.self.inside.table c.args.now c.args.segment (c.in-Whole.ensures.kept refl) (c.accept.ensures.slot c.in-Whole.slot c.in-Whole.is)

pub returns-in_default-hand_up_whole-clause-same : goal.returns-in_default-hand_up_whole-clause-same
returns-in_default-hand_up_whole-clause-same c =
    ap (λ (e : Endpoint). entity_of e c.undo.new.self) c.in_default-hand_up_whole.ensures.same
    ∙ ap (λ (t : TableState). record (state_of c.self.inside) { table = t }) (undone c)
    ∙ c.self.view_is

pub returns-in_default-hand_up_whole-clause-ready : goal.returns-in_default-hand_up_whole-clause-ready
returns-in_default-hand_up_whole-clause-ready c ready =
    subst (λ (t : TableState). IsReady c.args.now t) (sym (undone c))
    (subst (λ (e : EntityState). IsReady c.args.now e.table) (sym c.self.view_is) ready)

pub returns-in-Ok-hand_up_whole-clause-stands : goal.returns-in-Ok-hand_up_whole-clause-stands
returns-in-Ok-hand_up_whole-clause-stands c s content arrival stands moment shows same purpose =
    let here = subst (λ (e : EntityState). Stands e s) (sym c.self.view_is) stands in
    let told = c.in-Whole.ensures.answered here.buffers here.table in
    let done = completed c.self.inside.table.limits c.args.now (arrival_of c.args.segment) here.buffers (sym told) in
    let later = after c.self.inside.table.limits c.args.now (arrival_of c.args.segment) here.buffers in
    let octets = data_of octet_in done.buffer in
    let kept = c.in-Whole.ensures.stands here.buffers here.table in
    let named = c.accept.ensures.slot c.in-Whole.slot c.in-Whole.is in
    let buffers = others (state_of c.self.inside) c.args.now c.args.segment s content arrival here moment shows in
    whole_stands (state_of c.self.inside) c.args.now c.args.segment s content arrival here moment shows (entity_of c.hand_up_whole.new.endpoint c.accept.new.self)
    c.release.new.self octets done.buffer told done.found refl
    (c.in-Ok-hand_up_whole.ensures.stands (record s { buffers = buffers }) arrival.carried.unit.kind arrival.carried.options octets
    (kept_stands (state_of c.self.inside) c.args.now c.args.segment s content arrival here moment shows c.accept.new.self c.accept.ensures.limits kept)
    moment purpose (data_at c.accept.new.self c.in-Whole.slot.0 (arrival_of c.args.segment) later kept named done))
    c.release.ensures.limits (c.release.ensures.stands later c.args.segment.key kept named)

pub returns-in-Ok-hand_up_whole-clause-actions : goal.returns-in-Ok-hand_up_whole-clause-actions
returns-in-Ok-hand_up_whole-clause-actions c s content arrival stands moment shows same purpose =
    let here = subst (λ (e : EntityState). Stands e s) (sym c.self.view_is) stands in
    let told = c.in-Whole.ensures.answered here.buffers here.table in
    let done = completed c.self.inside.table.limits c.args.now (arrival_of c.args.segment) here.buffers (sym told) in
    let later = after c.self.inside.table.limits c.args.now (arrival_of c.args.segment) here.buffers in
    let octets = data_of octet_in done.buffer in
    let kept = c.in-Whole.ensures.stands here.buffers here.table in
    let named = c.accept.ensures.slot c.in-Whole.slot c.in-Whole.is in
    let buffers = others (state_of c.self.inside) c.args.now c.args.segment s content arrival here moment shows in
    whole_appends (state_of c.self.inside) c.args.now c.args.segment s content arrival here moment shows octets done.buffer
    c.args.out.now.items c.hand_up_whole.new.out.items told done.found refl
    (subst (λ (before : List Action). Appends before c.hand_up_whole.new.out.items (hand_up (record s { buffers = buffers }) arrival.carried.unit.kind
    c.args.segment.key.from c.args.segment.key.to octets arrival.carried.options).actions) c.reserve_exact.ensures.items
    (c.in-Ok-hand_up_whole.ensures.actions (record s { buffers = buffers }) arrival.carried.unit.kind arrival.carried.options octets
    (kept_stands (state_of c.self.inside) c.args.now c.args.segment s content arrival here moment shows c.accept.new.self c.accept.ensures.limits kept)
    moment purpose (data_at c.accept.new.self c.in-Whole.slot.0 (arrival_of c.args.segment) later kept named done)))

pub returns-in-Ok-hand_up_whole-clause-ready : goal.returns-in-Ok-hand_up_whole-clause-ready
returns-in-Ok-hand_up_whole-clause-ready c was_ready =
    let ready = subst (λ (e : EntityState). IsReady c.args.now e.table) (sym c.self.view_is) was_ready in
    let later = after c.self.inside.table.limits c.args.now (arrival_of c.args.segment) ready.buffers in
    whole_ready c.self.inside.table c.release.new.self c.args.now c.args.segment ready c.self.invariant.hold c.requires.offered.alive
    (sym (c.in-Whole.ensures.answered ready.buffers ready.stands))
    (c.release.ensures.stands later c.args.segment.key (c.in-Whole.ensures.stands ready.buffers ready.stands)
    (c.accept.ensures.slot c.in-Whole.slot c.in-Whole.is))

pub returns-in_default-accept-clause-stands : goal.returns-in_default-accept-clause-stands
returns-in_default-accept-clause-stands c =
    on_ok_weaker c.tell.result
    (λ told s content arrival stands moment shows same purpose.
    let here = subst (λ (e : EntityState). Stands e s) (sym c.self.view_is) stands in
    subst (λ (deed : Deed). Stands c.tell.new.self deed.after)
    (sym (offer_is (state_of c.self.inside) c.args.now c.args.segment s content arrival here moment shows (said c.accept.result)
    (c.accept.ensures.answered here.buffers here.table)))
    (told s content arrival (others (state_of c.self.inside) c.args.now c.args.segment s content arrival here moment shows)
    (told_stands (state_of c.self.inside) c.args.now c.args.segment s content arrival here moment shows c.accept.result c.accept.new.self
    (c.accept.ensures.answered here.buffers here.table) (said_not_whole c.accept.result c.in_default-accept.not-Whole) c.accept.ensures.same
    c.accept.ensures.limits (c.accept.ensures.stands here.buffers here.table))
    (same ∙ sym (ap seen c.in_ok-frame.ensures ∙ take-length c.args.frame.now))))
    c.tell.ensures.stands

pub returns-in_default-accept-clause-actions : goal.returns-in_default-accept-clause-actions
returns-in_default-accept-clause-actions c =
    on_ok_weaker c.tell.result
    (λ told s content arrival stands moment shows same purpose.
    let here = subst (λ (e : EntityState). Stands e s) (sym c.self.view_is) stands in
    subst (λ (deed : Deed). Appends c.args.out.now.items c.tell.new.out.items deed.actions)
    (sym (offer_is (state_of c.self.inside) c.args.now c.args.segment s content arrival here moment shows (said c.accept.result)
    (c.accept.ensures.answered here.buffers here.table)))
    (subst (λ (before : List Action). Appends before c.tell.new.out.items (takes_in s content arrival
    (others (state_of c.self.inside) c.args.now c.args.segment s content arrival here moment shows) (said c.accept.result)).actions) c.reserve_exact.ensures.items
    (told s content arrival (others (state_of c.self.inside) c.args.now c.args.segment s content arrival here moment shows)
    (told_stands (state_of c.self.inside) c.args.now c.args.segment s content arrival here moment shows c.accept.result c.accept.new.self
    (c.accept.ensures.answered here.buffers here.table) (said_not_whole c.accept.result c.in_default-accept.not-Whole) c.accept.ensures.same
    c.accept.ensures.limits (c.accept.ensures.stands here.buffers here.table))
    (same ∙ sym (ap seen c.in_ok-frame.ensures ∙ take-length c.args.frame.now))
    (ap (λ (a : Arrival (List ℕ)). a.key.id) (sym shows.shown)) (ap (λ (a : Arrival (List ℕ)). a.offset) (sym shows.shown)))))
    c.tell.ensures.actions

pub returns-in_default-accept-clause-ready : goal.returns-in_default-accept-clause-ready
returns-in_default-accept-clause-ready c was_ready =
    let ready = subst (λ (e : EntityState). IsReady c.args.now e.table) (sym c.self.view_is) was_ready in
    subst (λ (t : TableState). IsReady c.args.now t) (sym c.tell.ensures.table)
    (told_ready c.self.inside.table c.accept.new.self c.args.now c.args.segment ready c.self.invariant.hold c.requires.offered.alive
    (λ whole. said_not_whole c.accept.result c.in_default-accept.not-Whole (c.accept.ensures.answered ready.buffers ready.stands ∙ whole))
    (c.accept.ensures.stands ready.buffers ready.stands))
