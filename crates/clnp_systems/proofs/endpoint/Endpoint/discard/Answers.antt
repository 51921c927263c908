use Rattle.std.proofs.Common.{◌∙◌, ◌+◌, ◌-◌, ◌^◌, ℕ, List, min, ap, arith, subst, sym}
use Rattle.clnp_machine.specs.ClnpViews.Extent.{seen}
use Rattle.clnp_machine.specs.Content.{frame_of}
use Rattle.clnp_machine.specs.Local.{Deed, reports}
use Rattle.clnp_systems.specs.declared.endpoint.Endpoint.{Endpoint}
use Rattle.clnp_systems.specs.Endpoint.{StandsWith, entity_of}
use Rattle.clnp_systems.proofs.Reporting.{stands_told, told, told_alone}
use Rattle.clnp_systems.proofs.endpoint.Endpoint.discard.Goals as goal

pub returns-in_default-clause-actions : goal.returns-in_default-clause-actions
returns-in_default-clause-actions c table s content stands same =
    told_alone (entity_of c.args.self.now table) s content (seen c.args.frame) c.args.reason c.args.place stands same
    (c.in_default.ensures.report table s stands) c.args.out.now.items c.push_reserved.new.self.items c.push_reserved.ensures.items

pub returns-clause-actions : goal.returns-clause-actions
returns-clause-actions c table s content stands same =
    told (entity_of c.args.self.now table) s content (seen c.args.frame) c.args.reason c.args.place stands same c.in-Some.draft
    (c.in-Some.ensures.report table s stands)
    c.send.result (c.send.ensures.number ∙ ap (λ (n : ℕ). min (n + 1) (2 ^ 64 - 1)) stands.count)
    c.args.out.now.items c.push_reserved.new.self.items c.send.new.out.items c.push_reserved.ensures.items c.send.ensures.actions

pub push_reserved-requires : goal.push_reserved-requires
push_reserved-requires c = omega (arith, c.requires)

pub returns-in_default-clause-stands : goal.returns-in_default-clause-stands
returns-in_default-clause-stands c table s content stands same =
    subst (λ (d : Deed). StandsWith table c.args.self.now d.after)
    (sym (ap (λ (f : List ℕ). reports s f c.args.reason c.args.place) same ∙ c.in_default.ensures.report table s stands)) stands

pub returns-in_default-clause-len : goal.returns-in_default-clause-len
returns-in_default-clause-len c = omega (arith, c.push_reserved.ensures.len)

pub send-requires-clause-few : goal.send-requires-clause-few
send-requires-clause-few c = omega (arith, c.in-Some.ensures.few)

pub send-requires-clause-room : goal.send-requires-clause-room
send-requires-clause-room c = omega (arith, c.requires, c.push_reserved.ensures.len, c.push_reserved.ensures.capacity)

pub returns-clause-stands : goal.returns-clause-stands
returns-clause-stands c table s content stands same =
    subst (λ (e : Endpoint). StandsWith table e (reports s (frame_of content) c.args.reason c.args.place).after) (sym c.send.ensures.counted)
    (stands_told (entity_of c.args.self.now table) s content (seen c.args.frame) c.args.reason c.args.place stands same c.in-Some.draft
    (c.in-Some.ensures.report table s stands) c.send.result (c.send.ensures.number ∙ ap (λ (n : ℕ). min (n + 1) (2 ^ 64 - 1)) stands.count))

pub returns-clause-config : goal.returns-clause-config
returns-clause-config c = ap (λ (e : Endpoint). e.config) c.send.ensures.counted

pub returns-clause-len : goal.returns-clause-len
returns-clause-len c = omega (arith, c.push_reserved.ensures.len, c.send.ensures.len)

pub returns-clause-capacity : goal.returns-clause-capacity
returns-clause-capacity c = omega (arith, c.push_reserved.ensures.capacity, c.send.ensures.capacity)
