-- What an entity stands for where its ports or its routes change, and that its ports stay as they should be.
use Rattle.std.proofs.Common.{◌≡◌, ◌∙◌, refl, sym, ap, subst, ℕ, ◌<◌, List, Option, None, Some, Result, Ok, Err, OnOk, OnErr, length, arith}
use Rattle.std.specs.Prelude.{slice_get, slice_index_or, slice_set}
use Rattle.std.proofs.lemmas.Option.{slice_get_read}
use Rattle.std.specs.List.{AllByRecursion}
use Rattle.clnp_machine.specs.Change.{Change, PortIsAt, PortTakes, RouteIsGone, RouteIsSet, ports_taking, with_mtu}
use Rattle.clnp_machine.specs.ClnpPlan.Configuration.{HasItsPorts, IsPort, IsWithin}
use Rattle.clnp_machine.specs.ClnpPlan.declared.config.PortConfig.{PortConfig}
use Rattle.clnp_machine.specs.ClnpPlan.declared.config.Role.{Role}
use Rattle.clnp_machine.specs.ClnpPlan.declared.config.Role.TheVariants.{Host, Router}
use Rattle.clnp_machine.specs.Forwarding.Setting.{set_in, without}
use Rattle.clnp_machine.specs.Forwarding.Stands as routing
use Rattle.clnp_machine.specs.SystemTables.declared.forwarding.route.Route.{Route}
use Rattle.clnp_machine.specs.SystemTables.declared.forwarding.routes.Routes.{Routes}
use Rattle.clnp_machine.specs.Step.{as_changed}
use Rattle.clnp_machine.specs.System.{SystemState}
use Rattle.clnp_machine.proofs.ClnpBase.ListSteps.{all_set}
use Rattle.clnp_machine.proofs.ClnpBase.Lists.{AllByRecursion-slice_get}
use Rattle.clnp_machine.proofs.Keeping.{taken_at}
use Rattle.clnp_systems.specs.EsisState.{EsisState}
use Rattle.clnp_systems.specs.EsisStands as esis_entity
use Rattle.clnp_systems.specs.EntityState.{SystemEntityState}
use Rattle.clnp_systems.specs.EntityStands.{PartsStand}
use Rattle.clnp_systems.proofs.EntityParts.{KeepsLocal, local_same}

-- ---- for which states it stands

keeps_changed : (s : SystemState) (change : Change) → KeepsLocal s (as_changed change s)
keeps_changed s change = record { configuration = refl; hold = refl; count = refl; identifiers = refl; buffers = refl; pending = refl }

pub while_moved : (here : SystemEntityState) (number at : ℕ) (port : PortConfig) (esis : EsisState) (s : SystemState) → at ≡ number
    → esis ≡ record here.esis { next_hello = here.moment } → PartsStand here s
    → PartsStand (record here { ports = slice_set here.ports at port; esis = esis }) (as_changed (PortIsAt number port) s)
while_moved here number at port esis s same greets h =
    let t : SystemState = as_changed (PortIsAt number port) s in
    let due : EsisState = record here.esis { next_hello = here.moment } in
    let greeting : esis_entity.Stands due t =
    record { tables = h.esis.tables; limits = h.esis.limits; period = h.esis.period; next_hello = h.moment } in
    record {
      local = local_same here.local s t (keeps_changed s (PortIsAt number port)) h.local;
      esis = subst (λ (e : EsisState). esis_entity.Stands e t) (sym greets) greeting;
      ports = ap (λ (n : ℕ). slice_set here.ports n port) same ∙ ap (λ (ports : List PortConfig). slice_set ports number port) h.ports;
      routes = h.routes;
      moment = h.moment;
      congested = h.congested;
      since = h.since;
    }

pub while_taking : (here : SystemEntityState) (number mtu : ℕ) (ports : List PortConfig) (s : SystemState)
    → ports ≡ ports_taking number mtu (slice_get here.ports number) here.ports → PartsStand here s
    → PartsStand (record here { ports = ports }) (as_changed (PortTakes number mtu) s)
while_taking here number mtu ports s taken h =
    let t : SystemState = as_changed (PortTakes number mtu) s in
    record {
      local = local_same here.local s t (keeps_changed s (PortTakes number mtu)) h.local;
      esis = record { tables = h.esis.tables; limits = h.esis.limits; period = h.esis.period; next_hello = h.esis.next_hello };
      ports = taken ∙ ap (λ (ps : List PortConfig). ports_taking number mtu (slice_get ps number) ps) h.ports;
      routes = h.routes;
      moment = h.moment;
      congested = h.congested;
      since = h.since;
    }

pub while_set : (here : SystemEntityState) (routes : Routes) (route : Route) (s : SystemState) → routing.Stands routes (set_in route s.attached.routes)
    → PartsStand here s → PartsStand (record here { routes = routes }) (as_changed (RouteIsSet route) s)
while_set here routes route s set h =
    let t : SystemState = as_changed (RouteIsSet route) s in
    record {
      local = local_same here.local s t (keeps_changed s (RouteIsSet route)) h.local;
      esis = record { tables = h.esis.tables; limits = h.esis.limits; period = h.esis.period; next_hello = h.esis.next_hello };
      ports = h.ports;
      routes = set;
      moment = h.moment;
      congested = h.congested;
      since = h.since;
    }

pub while_gone : (here : SystemEntityState) (routes : Routes) (prefix : List ℕ) (s : SystemState)
    → routing.Stands routes (without prefix s.attached.routes) → PartsStand here s
    → PartsStand (record here { routes = routes }) (as_changed (RouteIsGone prefix) s)
while_gone here routes prefix s gone h =
    let t : SystemState = as_changed (RouteIsGone prefix) s in
    record {
      local = local_same here.local s t (keeps_changed s (RouteIsGone prefix)) h.local;
      esis = record { tables = h.esis.tables; limits = h.esis.limits; period = h.esis.period; next_hello = h.esis.next_hello };
      ports = h.ports;
      routes = gone;
      moment = h.moment;
      congested = h.congested;
      since = h.since;
    }

-- other maps with the same routes
pub while_kept : (here : SystemEntityState) (routes : Routes) (s : SystemState) → routing.Stands routes s.attached.routes → PartsStand here s
    → PartsStand (record here { routes = routes }) s
while_kept here routes s kept h =
    record {
      local = h.local;
      esis = h.esis;
      ports = h.ports;
      routes = kept;
      moment = h.moment;
      congested = h.congested;
      since = h.since;
    }

-- whether the route was set or memory was refused, it stands for some state
pub set_or_kept : {T E : Type 0} (r : Result T E) (here : SystemEntityState) (routes : Routes) (route : Route) (s : SystemState)
    → OnOk r (routing.Stands routes (set_in route s.attached.routes)) → OnErr r (routing.Stands routes s.attached.routes) → PartsStand here s
    → (t : SystemState) × PartsStand (record here { routes = routes }) t
set_or_kept (Ok value) here routes route s set kept h = (as_changed (RouteIsSet route) s, while_set here routes route s set h)
set_or_kept (Err refused) here routes route s set kept h = (s, while_kept here routes s kept h)

-- ---- its ports

-- the ports where one takes frames of another length
pub taken : (ports : List PortConfig) (number at mtu : ℕ) (port : PortConfig) → at ≡ number → at < length ports
    → port ≡ slice_index_or ports at port → slice_set ports at (with_mtu mtu port) ≡ ports_taking number mtu (slice_get ports number) ports
taken ports number at mtu port same within is =
    let there : slice_get ports at ≡ Some port = slice_get_read ports (length ports) at port refl within is in
    sym (taken_at ports at mtu port there) ∙ ap (λ (n : ℕ). ports_taking n mtu (slice_get ports n) ports) same

-- a host has one port, a router 1 to 8
pub few_ports : (role : Role) (ports : List PortConfig) → HasItsPorts role ports → IsWithin 1 8 (length ports)
few_ports Host ports h = record { least = omega (arith, h); most = omega (arith, h) }
few_ports Router ports h = h

-- each port takes frames that are long enough where one is put in the place of another
pub wide_set : (ports : List PortConfig) (number : ℕ) (port : PortConfig) → AllByRecursion IsPort ports → IsPort port
    → AllByRecursion IsPort (slice_set ports number port)
wide_set ports number port wide good = all_set IsPort ports number port wide good

pub wide_taking : (number mtu : ℕ) (found : Option PortConfig) (ports : List PortConfig) → slice_get ports number ≡ found
    → AllByRecursion IsPort ports → IsWithin 512 65535 mtu → AllByRecursion IsPort (ports_taking number mtu found ports)
wide_taking number mtu None ports there wide good = wide
wide_taking number mtu (Some port) ports there wide good =
    let is : IsPort port = AllByRecursion-slice_get IsPort ports number port there wide in
    all_set IsPort ports number (with_mtu mtu port) wide (record { transit = is.transit; mtu = good })
