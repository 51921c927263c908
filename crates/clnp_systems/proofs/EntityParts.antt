-- The parts of an entity stand for states that differ in nothing that they keep.
use Rattle.std.proofs.Common.{◌≡◌, ◌∙◌, refl, sym, ap, subst, ℕ, ◌≤◌, Bool, List, [], ◌∷◌, arith}
use Rattle.std.specs.List.{AllByRecursion}
use Rattle.clnp_machine.specs.Attachment.{Attachment}
use Rattle.clnp_machine.specs.Reassembly.Buffer.{Buffer}
use Rattle.clnp_machine.specs.Reassembly.Mapped.{map_buffers}
use Rattle.clnp_machine.specs.ClnpPlan.Configuration.{SystemConfiguration}
use Rattle.clnp_machine.specs.ClnpPlan.declared.config.PortConfig.{PortConfig}
use Rattle.clnp_machine.specs.Identifiers.{Identifiers}
use Rattle.clnp_machine.specs.Local.{Deed, IsAsOffered, Sends, Tells, made_in}
use Rattle.clnp_machine.specs.Local as locally
use Rattle.clnp_machine.specs.Step.{congest}
use Rattle.clnp_machine.specs.EveryStep as steps
use Rattle.clnp_machine.specs.EveryStep.{IsDeed, LeavesTheRest, OnlyHellos}
use Rattle.clnp_machine.specs.System.{SystemState, Effect, table_limits}
use Rattle.clnp_machine.specs.Unit.{Packet, DataUnit, wire}
use Rattle.clnp_machine.specs.Esis.{esis_limits}
use Rattle.clnp_systems.specs.EsisState.{EsisState}
use Rattle.clnp_systems.specs.EsisStands as esis_entity
use Rattle.clnp_machine.specs.EsisTables.Stands as esis_tables
use Rattle.clnp_machine.specs.Forwarding.Stands as routing
use Rattle.clnp_machine.specs.SystemTables.declared.forwarding.routes.Routes.{Routes}
use Rattle.clnp_machine.specs.EsisTables.Fact.{Fact}
use Rattle.clnp_systems.specs.LocalState.{EntityState}
use Rattle.clnp_systems.specs.Local as local_entity
use Rattle.clnp_systems.specs.Pool as pool
use Rattle.clnp_systems.specs.EntityState.{SystemEntityState}
use Rattle.clnp_systems.specs.EntityStands.{PartsStand, PartsStandSince}
use Rattle.clnp_systems.specs.Deeds.{IsFresh}

-- what a system does at its own addresses keeps
pub record KeepsLocal (s t : SystemState) : Type 0 where
  pub configuration : t.configuration ≡ s.configuration
  pub hold : t.hold ≡ s.hold
  pub count : t.count ≡ s.count
  pub identifiers : t.identifiers ≡ s.identifiers
  pub buffers : t.buffers ≡ s.buffers
  pub pending : t.pending ≡ s.pending

pub local_same : (here : EntityState) (s t : SystemState) → KeepsLocal s t → local_entity.Stands here s → local_entity.Stands here t
local_same here s t k h =
    let limits : table_limits s ≡ table_limits t =
    ap (λ (c : SystemConfiguration). table_limits (record s { configuration = c })) (sym k.configuration)
    ∙ ap (λ (n : ℕ). table_limits (record s { configuration = t.configuration; hold = n })) (sym k.hold) in
    record {
      configuration = h.configuration ∙ sym k.configuration;
      limits = h.limits ∙ limits;
      count = h.count ∙ sym k.count;
      identifiers = subst (λ (ids : Identifiers). pool.Stands here.identifiers ids) (sym k.identifiers) h.identifiers;
      buffers = h.buffers;
      table = h.table;
      shown = h.shown ∙ ap (λ (buffers : List (Buffer Packet)). map_buffers wire buffers) (sym k.buffers);
      packets = subst (λ (buffers : List (Buffer Packet)). AllByRecursion (λ (buffer : Buffer Packet). AllByRecursion IsAsOffered buffer.kept) buffers)
          (sym k.buffers) h.packets;
      pending = subst (λ (requests : List DataUnit). local_entity.AreRequests here.pending requests) (sym k.pending) h.pending;
    }

pub keeps_rest : (s t : SystemState) → LeavesTheRest s t → KeepsLocal s t
keeps_rest s t h =
    record { configuration = h.configuration; hold = h.hold; count = h.count; identifiers = h.identifiers; buffers = h.buffers; pending = h.pending }

-- an entity's state has no moment of its own
pub keeps_moment : (s : SystemState) (now : ℕ) → KeepsLocal s (locally.at_moment now s)
keeps_moment s now = record { configuration = refl; hold = refl; count = refl; identifiers = refl; buffers = refl; pending = refl }

-- what it heard and says keeps
pub esis_same : (before : ℕ) (here : EsisState) (s t : SystemState) → t.configuration ≡ s.configuration → t.facts ≡ s.facts → t.hello ≡ s.hello
    → t.next_hello ≡ s.next_hello → esis_entity.StandsSince before here s → esis_entity.StandsSince before here t
esis_same before here s t configuration facts hello next h =
    record {
      tables = subst (λ (heard_of : List Fact). esis_tables.Stands here.tables heard_of before []) (sym facts) h.tables;
      limits = h.limits ∙ ap (λ (c : SystemConfiguration). esis_limits (record s { configuration = c })) (sym configuration);
      period = h.period ∙ sym hello;
      next_hello = h.next_hello ∙ sym next;
    }

-- its ports and its routes, where it is attached as before
ports_same : (ports : List PortConfig) (s t : SystemState) → t.attached ≡ s.attached → ports ≡ s.attached.ports → ports ≡ t.attached.ports
ports_same ports s t same h = h ∙ ap (λ (a : Attachment). a.ports) (sym same)

routes_same : (routes : Routes) (s t : SystemState) → t.attached ≡ s.attached → routing.Stands routes s.attached.routes
    → routing.Stands routes t.attached.routes
routes_same routes s t same h = subst (λ (a : Attachment). routing.Stands routes a.routes) (sym same) h

-- after a deed at the system's own addresses
pub parts_after_deed : (before : ℕ) (here : SystemEntityState) (local : EntityState) (s : SystemState) (deed : Deed) → IsDeed s deed
    → local_entity.Stands local deed.after → PartsStandSince before here s → PartsStandSince before (record here { local = local }) deed.after
parts_after_deed before here local s deed is done h =
    record {
      local = done;
      esis = esis_same before here.esis s deed.after is.itself.configuration is.heard.facts is.heard.hello is.heard.next_hello h.esis;
      ports = ports_same here.ports s deed.after is.heard.attached h.ports;
      routes = routes_same here.routes s deed.after is.heard.attached h.routes;
      moment = h.moment ∙ sym is.moment;
      congested = h.congested ∙ sym is.heard.congested;
      since = subst (λ (now : ℕ). before ≤ now) (sym is.moment) h.since;
    }

-- after something was said or heard
pub parts_after_hello : (before : ℕ) (here : SystemEntityState) (esis : EsisState) (s : SystemState) (effect : Effect) → OnlyHellos s effect
    → esis_entity.Stands esis effect.after → PartsStandSince before here s → PartsStand (record here { esis = esis }) effect.after
parts_after_hello before here esis s effect only done h =
    record {
      local = local_same here.local s effect.after (keeps_rest s effect.after only.rest) h.local;
      esis = done;
      ports = ports_same here.ports s effect.after only.rest.attached h.ports;
      routes = routes_same here.routes s effect.after only.rest.attached h.routes;
      moment = h.moment ∙ sym only.rest.moment;
      congested = h.congested ∙ sym only.rest.congested;
      since = omega arith;
    }

fresh_of : (s : SystemState) (actions : List locally.Action) → AllByRecursion (steps.IsFresh s s.moment) (made_in actions)
    → AllByRecursion (IsFresh s.moment) actions
fresh_of s [] all = tt
fresh_of s (Tells note ∷ actions) all = (tt, fresh_of s actions all)
fresh_of s (Sends u ∷ actions) all = ((all.0.made, all.0.first_position), fresh_of s actions all.1)

-- what a deed sends was made at its moment
pub deed_is_fresh : (s : SystemState) (deed : Deed) → IsDeed s deed → AllByRecursion (IsFresh s.moment) deed.actions
deed_is_fresh s deed h = fresh_of s deed.actions h.fresh

-- what has ended by an earlier moment has ended now where this is the same moment
pub parts_now : (before : ℕ) (here : SystemEntityState) (t : SystemState) → t.moment ≡ before → PartsStandSince before here t → PartsStand here t
parts_now before here t same h = subst (λ (m : ℕ). PartsStandSince m here t) (sym same) h

-- at a later moment nothing is forgotten yet
pub parts_later : (here : SystemEntityState) (s : SystemState) (now : ℕ) → here.moment ≤ now → PartsStand here s
    → PartsStandSince s.moment (record here { moment = now }) (locally.at_moment now s)
parts_later here s now later h =
    record {
      local = local_same here.local s (locally.at_moment now s) (keeps_moment s now) h.local;
      esis = esis_same s.moment here.esis s (locally.at_moment now s) refl refl refl refl h.esis;
      ports = h.ports;
      routes = h.routes;
      moment = refl;
      congested = h.congested;
      since = subst (λ (m : ℕ). m ≤ now) h.moment later;
    }

-- whether it is spent says nothing of its parts
pub while_spent : (here : SystemEntityState) (spent : Bool) (s : SystemState) → PartsStand here s → PartsStand (record here { spent = spent }) s
while_spent here spent s h =
    record {
      local = h.local;
      esis = h.esis;
      ports = h.ports;
      routes = h.routes;
      moment = h.moment;
      congested = h.congested;
      since = h.since;
    }

-- nothing that it keeps depends on whether it is congested
pub while_congested : (here : SystemEntityState) (on : Bool) (s : SystemState) → PartsStand here s
    → PartsStand (record here { congested = on }) (congest s on).after
while_congested here on s h =
    let t : SystemState = (congest s on).after in
    record {
      local = local_same here.local s t (record { configuration = refl; hold = refl; count = refl; identifiers = refl; buffers = refl; pending = refl }) h.local;
      esis = esis_same s.moment here.esis s t refl refl refl refl h.esis;
      ports = h.ports;
      routes = h.routes;
      moment = h.moment;
      congested = refl;
      since = h.since;
    }
