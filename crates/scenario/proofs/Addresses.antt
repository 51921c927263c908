-- Each address that lines declare for a system is one: its own, those of its ports, and those of the next systems on its routes.
-- So is each prefix of a route.
use Rattle.std.proofs.Common.{◌≡◌, refl, ℕ, ◌+◌, ◌*◌, ◌&&◌, not, nat_le, nat_lt, List, [], ◌∷◌, map, length, slice_get, codes, is_some, IfOk}
use Rattle.std.specs.List.{AllByRecursion, flat_map}
use Rattle.std.specs.Str.{bytes_eq}
use Rattle.std.proofs.lemmas.List.Elements.{All-from_recursion}
use Rattle.clnp_plan.proofs.ClnpBase.Lists.{AllByRecursion-mapped, AllByRecursion-push}
use Rattle.clnp_plan.specs.ClnpBase.Text.{decimal_of, words_of, is_skipped}
use Rattle.clnp_plan.specs.Nsap.Address.{IsAddress}
use Rattle.clnp_plan.specs.Nsap.Prefix.{IsPrefix}
use Rattle.clnp_plan.specs.SystemTables.declared.forwarding.route.Route.{Route}
use Rattle.clnp_plan.specs.Configuration.{IsAddressed, IsAddressedRoute, SystemConfiguration}
use Rattle.clnp_plan.specs.declared.config.PortConfig.{PortConfig}
use Rattle.scenario.specs.Words.{name_word, declared_word, number_within, number_word, address_word, prefix_word, is_digits, is_taken, is_one_at_most, each_once, two_words, five_words, first_two, first_four}
use Rattle.scenario.specs.Declarations.{Declarations, DeclaredSystem, NumberedPort, nothing_declared, subnet_names, system_names, with_address, with_port, count_below, has_port, snpas_on, mtu_at, takes_address, takes_port, limits_words, limits_line, subnet_line, role_word, setting_words, key_of, settings_of, system_line, address_line, transit_word, port_line, router_word, port_word, has_route, takes_route, with_route, route_line, declaration_line, all_declared, configuration_of}
use Rattle.clnp_plan.specs.ScenarioPlan.Standing.{is_among}
use Rattle.scenario.specs.Grammar.{ReadTo, is_line_of, declarations_from}
use Rattle.scenario.proofs.Behind.{behind_result, behind_line, behind_found, behind_wanted, behind_such, behind_line_such, either_way}
use Rattle.scenario.proofs.Apart.{addresses_of}
use Rattle.scenario.proofs.Fit.{changed}
use Rattle.scenario.proofs.Forms.{Laws, address_formed}
use Rattle.scenario.proofs.Kept.{all_among}
use Rattle.scenario.proofs.Prefixes.{prefix_formed}

-- the address of a declared port is one
abbrev pub IsAddressedPort : NumberedPort → Type 0
IsAddressedPort numbered = IsAddress numbered.port.snpa

-- so are all that a system has so far
pub record HasAddresses (system : DeclaredSystem) : Type 0 where
  pub own : AllByRecursion IsAddress system.addresses
  pub ports : AllByRecursion IsAddressedPort system.ports
  pub routes : AllByRecursion IsAddressedRoute system.routes
  pub prefixes : AllByRecursion (λ (route : Route). IsPrefix route.prefix) system.routes

module _ (version : ℕ) where
  -- and all that each system has that was declared so far, in a text of this version
  abbrev pub AreAddressed : Declarations → Type 0
  AreAddressed d = (d.version ≡ version) × AllByRecursion HasAddresses d.systems

  limits_keep : (d : Declarations) (words : List (List ℕ)) → AreAddressed d → IfOk (limits_line d words) AreAddressed
  unfolding limits_line
  limits_keep d words h =
      behind_found (limits_words d.version words) _ _ AreAddressed (λ w _.
      behind_result (number_word 1 4096 w.0) _ AreAddressed (λ age _.
      behind_result (number_word 1 255 w.1) _ AreAddressed (λ hold _.
      behind_result (number_word 1 16384 w.2) _ AreAddressed (λ reuse _.
      behind_result (number_word 0 4096 w.3) _ AreAddressed (λ skew _.
      behind_wanted (not (is_some d.limits)) _ _ AreAddressed (λ _.
      behind_wanted (nat_le (age + hold + 2 * skew) reuse) _ _ AreAddressed (λ _. h)))))))

  subnet_keeps : (d : Declarations) (words : List (List ℕ)) → AreAddressed d → IfOk (subnet_line d words) AreAddressed
  unfolding subnet_line
  subnet_keeps d words h =
      behind_found (two_words words) _ _ AreAddressed (λ w _.
      behind_result (name_word w.0) _ AreAddressed (λ name _.
      behind_wanted (is_digits w.1) _ _ AreAddressed (λ _.
      behind_wanted (not (is_taken (subnet_names d) name)) _ _ AreAddressed (λ _.
      behind_found (number_within 512 65535 (decimal_of w.1)) _ _ AreAddressed (λ mtu _.
      behind_wanted (nat_lt (length d.subnets) 64) _ _ AreAddressed (λ _. h))))))

  system_has_none : (d : Declarations) (words : List (List ℕ)) → AreAddressed d → IfOk (system_line d words) AreAddressed
  unfolding system_line
  system_has_none d words h =
      behind_found (first_two words) _ _ AreAddressed (λ w _.
      behind_result (name_word w.0) _ AreAddressed (λ name _.
      behind_result (role_word w.1) _ AreAddressed (λ role _.
      behind_result (setting_words w.2) _ AreAddressed (λ settings _.
      behind_wanted (not (is_taken (system_names d) name) && each_once key_of settings) _ _ AreAddressed (λ _.
      behind_wanted (nat_lt (length d.systems) 64) _ _ AreAddressed (λ _.
      let system : DeclaredSystem = record { name = name; role = role; settings = settings_of settings; addresses = []; ports = []; routes = [] } in
      (h.0, AllByRecursion-push HasAddresses d.systems system h.1 (record { own = tt; ports = tt; routes = tt; prefixes = tt }))))))))

  address_is_one : Laws → (d : Declarations) (words : List (List ℕ)) → AreAddressed d → IfOk (address_line d words) AreAddressed
  unfolding address_line
  address_is_one laws d words h =
      behind_found (two_words words) _ _ AreAddressed (λ w _.
      behind_result (declared_word (system_names d) w.0) _ AreAddressed (λ place _.
      behind_such (address_word w.1) _ IsAddress AreAddressed (address_formed laws w.1) (λ address is.
      behind_wanted (not (is_among address (addresses_of d.systems))) _ _ AreAddressed (λ _.
      behind_wanted (takes_address (slice_get d.systems place)) _ _ AreAddressed (λ _. (
        h.0,
        changed HasAddresses (with_address address) place d.systems h.1 (λ system _ its.
            record { own = AllByRecursion-push IsAddress system.addresses address its.own is; ports = its.ports; routes = its.routes; prefixes = its.prefixes }),
      ))))))

  port_has_one : Laws → (d : Declarations) (words : List (List ℕ)) → AreAddressed d → IfOk (port_line d words) AreAddressed
  unfolding port_line
  port_has_one laws d words h =
      behind_found (first_four words) _ _ AreAddressed (λ w _.
      behind_wanted (is_one_at_most w.4) _ _ AreAddressed (λ _.
      behind_result (declared_word (system_names d) w.0) _ AreAddressed (λ place _.
      behind_result (number_word 0 7 w.1) _ AreAddressed (λ number _.
      behind_result (declared_word (subnet_names d) w.2) _ AreAddressed (λ subnet _.
      behind_such (address_word w.3) _ IsAddress AreAddressed (address_formed laws w.3) (λ snpa is.
      behind_result (transit_word w.4) _ AreAddressed (λ transit _.
      behind_wanted (not (has_port number subnet (slice_get d.systems place))) _ _ AreAddressed (λ _.
      behind_wanted (not (is_among snpa (flat_map (snpas_on subnet) d.systems))) _ _ AreAddressed (λ _.
      behind_wanted (takes_port (slice_get d.systems place)) _ _ AreAddressed (λ _.
      let numbered : NumberedPort = record { number = number; port = record { subnet = subnet; snpa = snpa; transit = transit; mtu = mtu_at (slice_get d.subnets subnet) } } in (
        h.0,
        changed HasAddresses (with_port numbered) place d.systems h.1 (λ system _ its.
            record { own = its.own; ports = all_among IsAddressedPort numbered (count_below number system.ports) system.ports is its.ports; routes = its.routes; prefixes = its.prefixes }),
      )))))))))))

  route_has_two : Laws → (d : Declarations) (words : List (List ℕ)) → AreAddressed d → IfOk (route_line d words) AreAddressed
  unfolding route_line
  route_has_two laws d words h =
      behind_found (five_words words) _ _ AreAddressed (λ w _.
      behind_result (router_word d w.0) _ AreAddressed (λ place _.
      behind_such (prefix_word w.1) _ IsPrefix AreAddressed (prefix_formed w.1) (λ prefix formed.
      behind_result (port_word (slice_get d.systems place) w.2) _ AreAddressed (λ port _.
      behind_such (address_word w.3) _ IsAddress AreAddressed (address_formed laws w.3) (λ snpa first.
      behind_such (address_word w.4) _ IsAddress AreAddressed (address_formed laws w.4) (λ title second.
      behind_wanted (not (has_route prefix (slice_get d.systems place))) _ _ AreAddressed (λ _.
      behind_wanted (takes_route (slice_get d.systems place)) _ _ AreAddressed (λ _.
      let route : Route = record { prefix = prefix; port = port; snpa = snpa; title = title } in (
        h.0,
        changed HasAddresses (with_route route) place d.systems h.1 (λ system _ its.
            record {
              own = its.own;
              ports = its.ports;
              routes = AllByRecursion-push IsAddressedRoute system.routes route its.routes (record { snpa = first; title = second });
              prefixes = AllByRecursion-push (λ (route : Route). IsPrefix route.prefix) system.routes route its.prefixes formed;
            }),
      )))))))))

  line_keeps : Laws → (d : Declarations) (words : List (List ℕ)) → AreAddressed d → IfOk (declaration_line d words) AreAddressed
  unfolding declaration_line
  line_keeps laws d [] h = tt
  line_keeps laws d (keyword ∷ words) h =
      either_way (bytes_eq keyword (codes "limits")) _ _ AreAddressed (limits_keep d words h)
      (either_way (bytes_eq keyword (codes "subnet")) _ _ AreAddressed (subnet_keeps d words h)
      (either_way (bytes_eq keyword (codes "system")) _ _ AreAddressed (system_has_none d words h)
      (either_way (bytes_eq keyword (codes "address")) _ _ AreAddressed (address_is_one laws d words h)
      (either_way (bytes_eq keyword (codes "port")) _ _ AreAddressed (port_has_one laws d words h)
      (either_way (bytes_eq keyword (codes "route")) _ _ AreAddressed (route_has_two laws d words h) tt)))))

  -- so is each up to `events`
  abbrev pub ReadAddressed : ReadTo Declarations → Type 0
  ReadAddressed r = AreAddressed r.value

  declarations_keep : Laws → (n : ℕ) (d : Declarations) (lines : List (List ℕ)) → AreAddressed d → IfOk (declarations_from n d lines) ReadAddressed
  declarations_keep laws n d [] h = tt
  declarations_keep laws n d (line ∷ lines) h =
      either_way (is_skipped line) _ _ ReadAddressed (declarations_keep laws (n + 1) d lines h)
      (either_way (is_line_of (codes "events") (words_of line)) _ _ ReadAddressed
      (behind_line n (all_declared d) _ ReadAddressed (λ _ _. h))
      (behind_line_such n (declaration_line d (words_of line)) _ AreAddressed ReadAddressed (line_keeps laws d (words_of line) h) (λ declared keeps.
      declarations_keep laws (n + 1) declared lines keeps)))

pub declared_addresses : Laws → (version n : ℕ) (lines : List (List ℕ)) → IfOk (declarations_from n (nothing_declared version) lines) (ReadAddressed version)
declared_addresses laws version n lines = declarations_keep version laws n (nothing_declared version) lines (refl, tt)

-- so is each as it is configured
system_addressed : (system : DeclaredSystem) → HasAddresses system → IsAddressed (configuration_of system)
system_addressed system its =
    record {
      own = All-from_recursion IsAddress system.addresses its.own;
      ports = AllByRecursion-mapped IsAddressedPort (λ (port : PortConfig). IsAddress port.snpa) (λ (numbered : NumberedPort). numbered.port) system.ports
          (λ numbered is. is) its.ports;
      routes = its.routes;
    }

pub configured_addresses : (systems : List DeclaredSystem) → AllByRecursion HasAddresses systems → AllByRecursion IsAddressed (map configuration_of systems)
configured_addresses systems h = AllByRecursion-mapped HasAddresses IsAddressed configuration_of systems system_addressed h

pub configured_prefixes : (systems : List DeclaredSystem) → AllByRecursion HasAddresses systems
    → AllByRecursion (λ (system : SystemConfiguration). AllByRecursion (λ (route : Route). IsPrefix route.prefix) system.routes) (map configuration_of systems)
configured_prefixes systems h =
    AllByRecursion-mapped HasAddresses (λ (system : SystemConfiguration). AllByRecursion (λ (route : Route). IsPrefix route.prefix) system.routes) configuration_of systems
    (λ system its. its.prefixes) h
