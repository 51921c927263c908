-- What fair changes keep.
use Rattle.std.proofs.Common.{◌≡◌, ℕ, ◌<◌, List, length, not, Option, Some, None, refl, sym, subst, ap, length-set}
use Rattle.std.specs.Prelude.{slice_get, slice_set}
use Rattle.std.specs.List.{AllByRecursion}
use Rattle.clnp_plan.proofs.ClnpBase.Filters.{AllByRecursion-filter}
use Rattle.clnp_plan.proofs.ClnpBase.ListSteps.{all_set}
use Rattle.clnp_plan.proofs.ClnpBase.Lists.{AllByRecursion-push, AllByRecursion-slice_get}
use Rattle.clnp_plan.specs.Nsap.Address.{IsAddress}
use Rattle.clnp_plan.specs.Configuration.{IsAddressed, IsAddressedRoute, IsPort, IsSystem, IsWithin, SystemConfiguration}
use Rattle.clnp_plan.specs.Forwarding.Distinct.{AreDistinct, has_prefix}
use Rattle.clnp_plan.specs.Forwarding.Setting.{set_in, without}
use Rattle.clnp_plan.specs.SystemTables.declared.forwarding.route.Route.{Route}
use Rattle.clnp_plan.specs.declared.config.PortConfig.{PortConfig}
use Rattle.clnp_machine.specs.Attachment.{Attachment, IsAttached, as_declared}
use Rattle.clnp_machine.specs.Change.{Change, ChangesFairly, PortIsAt, PortTakes, RouteIsGone, RouteIsSet, changed, ports_taking, with_mtu}

pub declared_soundly : (system : SystemConfiguration) → IsSystem system → IsAddressed system → IsAttached (as_declared system)
declared_soundly system is at = record {
  ports = is.each_port;
  addressed = at.ports;
  next = at.routes;
  lead = is.each_route;
  distinct = is.distinct_routes;
}

-- ---- one port in the place of another

with_port : (a : Attachment) (number : ℕ) (port : PortConfig) → IsAttached a → IsPort port → IsAddress port.snpa
    → IsAttached (record a { ports = slice_set a.ports number port })
with_port a number port is good at = record {
  ports = all_set IsPort a.ports number port is.ports good;
  addressed = all_set (λ (p : PortConfig). IsAddress p.snpa) a.ports number port is.addressed at;
  next = is.next;
  lead = subst (λ (n : ℕ). AllByRecursion (λ (route : Route). route.port < n) a.routes) (sym (length-set a.ports number port)) is.lead;
  distinct = is.distinct;
}

taking_soundly : (a : Attachment) (number mtu : ℕ) → IsAttached a → IsWithin 512 65535 mtu
    → (found : Option PortConfig) → slice_get a.ports number ≡ found
    → IsAttached (record a { ports = ports_taking number mtu found a.ports })
taking_soundly a number mtu is fair None there = is
taking_soundly a number mtu is fair (Some port) there =
    let good : IsPort port = AllByRecursion-slice_get IsPort a.ports number port there is.ports in
    let at : IsAddress port.snpa = AllByRecursion-slice_get (λ (p : PortConfig). IsAddress p.snpa) a.ports number port there is.addressed in
    with_port a number (with_mtu mtu port) is (record { transit = good.transit; mtu = fair }) at

-- ---- other routes

with_routes : (a : Attachment) (routes : List Route) → IsAttached a → AllByRecursion IsAddressedRoute routes
    → AllByRecursion (λ (route : Route). route.port < length a.ports) routes → AreDistinct routes → IsAttached (record a { routes = routes })
with_routes a routes is next lead distinct = record {
  ports = is.ports;
  addressed = is.addressed;
  next = next;
  lead = lead;
  distinct = distinct;
}

module _ (P : Route → Type 0) (prefix : List ℕ) where
  still : (routes : List Route) → AllByRecursion P routes → AllByRecursion P (without prefix routes)
  still routes all = AllByRecursion-filter (λ route. not (has_prefix prefix route)) P P (λ route passes p. p) routes all

abbrev pub StayDistinct : Type 0
StayDistinct = ((route : Route) (routes : List Route) → AreDistinct routes → AreDistinct (set_in route routes))
    × ((prefix : List ℕ) (routes : List Route) → AreDistinct routes → AreDistinct (without prefix routes))

pub changed_soundly : StayDistinct → (a : Attachment) (change : Change) → IsAttached a → ChangesFairly a change → IsAttached (changed change a)
changed_soundly stay a (PortIsAt number port) is fair = with_port a number port is fair.0 fair.1
changed_soundly stay a (PortTakes number mtu) is fair = taking_soundly a number mtu is fair (slice_get a.ports number) refl
changed_soundly stay a (RouteIsSet route) is fair =
    with_routes a (set_in route a.routes) is
    (AllByRecursion-push IsAddressedRoute (without route.prefix a.routes) route (still IsAddressedRoute route.prefix a.routes is.next) fair.0)
    (AllByRecursion-push (λ (r : Route). r.port < length a.ports) (without route.prefix a.routes) route
    (still (λ (r : Route). r.port < length a.ports) route.prefix a.routes is.lead) fair.1)
    (stay.0 route a.routes is.distinct)
changed_soundly stay a (RouteIsGone prefix) is fair =
    with_routes a (without prefix a.routes) is (still IsAddressedRoute prefix a.routes is.next)
    (still (λ (r : Route). r.port < length a.ports) prefix a.routes is.lead) (stay.1 prefix a.routes is.distinct)

-- ---- the ports by their numbers

pub taken_at : (ports : List PortConfig) (number mtu : ℕ) (port : PortConfig) → slice_get ports number ≡ Some port
    → ports_taking number mtu (slice_get ports number) ports ≡ slice_set ports number (with_mtu mtu port)
taken_at ports number mtu port there = ap (λ (found : Option PortConfig). ports_taking number mtu found ports) there

pub taking_length : (number mtu : ℕ) (found : Option PortConfig) (ports : List PortConfig) → length (ports_taking number mtu found ports) ≡ length ports
taking_length number mtu None ports = refl
taking_length number mtu (Some port) ports = length-set ports number (with_mtu mtu port)

pub same_number : (a : Attachment) (change : Change) → length (changed change a).ports ≡ length a.ports
same_number a (PortIsAt number port) = length-set a.ports number port
same_number a (PortTakes number mtu) = taking_length number mtu (slice_get a.ports number) a.ports
same_number a (RouteIsSet route) = refl
same_number a (RouteIsGone prefix) = refl
