-- The declarations as they are written are read as what is declared.
use Rattle.std.proofs.Common.{◌≡◌, ◌≢◌, inl, inr, ℕ, ◌+◌, ◌<◌, ◌≤◌, ◌==◌, nat_lt, Bool, true, false, List, [], ◌∷◌, ◌++◌, map, filter, length, slice_get, codes, Option, None, Some, option_map, Result, Ok, refl, sym, ap, ◌∙◌, subst, arith, length-append, append_assoc}
use Rattle.std.specs.List.{AllByRecursion, flat_map, list_all}
use Rattle.std.specs.Fmt.{decimal}
use Rattle.std.proofs.lemmas.Bool.{cases_Bool, eq-eqb, le-leb, lt-ltb}
use Rattle.std.proofs.lemmas.List.{append-nil, length-map, map-append}
use Rattle.std.proofs.lemmas.List.Elements.{filter-append, recursion_from_All}
use Rattle.std.proofs.lemmas.Option.{slice_get_within}
use Rattle.clnp_plan.specs.ClnpBase.Text.{lines_of}
use Rattle.clnp_plan.proofs.ClnpBase.Choices.{one_of}
use Rattle.clnp_plan.proofs.ClnpBase.Maps.{map-map}
use Rattle.clnp_plan.specs.Nsap.Address.{IsAddress}
use Rattle.clnp_plan.specs.Nsap.Prefix.{IsPrefix, prefix_text}
use Rattle.clnp_plan.specs.Nsap.Text.{hex_text}
use Rattle.clnp_plan.specs.Forwarding.Distinct as prefixes
use Rattle.clnp_plan.specs.SystemTables.declared.forwarding.route.Route.{Route}
use Rattle.clnp_plan.proofs.ClnpBase.SameOctets.{other-back}
use Rattle.clnp_plan.specs.Configuration.{HasItsAddresses, HasItsPorts, HasItsRoutes, IsAddressed, IsAddressedRoute, IsPort, IsSystem, IsWithin, SystemConfiguration}
use Rattle.clnp_plan.specs.declared.config.PortConfig.{PortConfig}
use Rattle.clnp_plan.specs.declared.config.Role.{Role}
use Rattle.clnp_plan.specs.declared.config.Role.TheVariants.{Host, Router}
use Rattle.clnp_plan.specs.ScenarioPlan.Plan.{AreOnDifferent, IsFit, IsOn, Plan, Subnetwork, snpas_of}
use Rattle.scenario.specs.ScenarioWriting.Canonical.{address_text, belongings_text, declarations_text, limits_text, port_text, port_texts, role_text, route_text, setting_texts, skew_words, subnet_name, subnet_text, system_text}
use Rattle.scenario.specs.Words.{is_name, declared_word}
use Rattle.scenario.specs.Declarations.{Declarations, DeclaredSystem, NumberedPort, nothing_declared, system_names, with_address, with_port, with_route, most_addresses, most_ports, snpas_on, mtu_at, role_word, is_router, is_complete, has_limits}
use Rattle.clnp_plan.specs.ScenarioPlan.Standing.{changed_at}
use Rattle.scenario.specs.Grammar.{declarations_from}
use Rattle.scenario.specs.declared.code.Code.{Code}
use Rattle.scenario.proofs.ScenarioWriting.DeclaredLines.{GoesOn, stays, goes_through, line_goes, lines_go, limits_given, subnet_given, system_given, address_given, port_given, route_given}
use Rattle.scenario.proofs.ScenarioWriting.Stages.{numbered_from, declared_system, bare, declared_with, declared_of, changed_between, found_between, all_between, together, has_other, is_other, none_pass, not_among, not_taken, next_port, no_such_port, number_is_there, no_gap, length-numbered_from}
use Rattle.scenario.proofs.ScenarioWriting.Written.{IsWord, ReadsBack, address_is_word, address_word_read, decimal_is_word, declared_word_read, mtu_digits, mtu_read, name_is_word, spelled}
use Rattle.scenario.proofs.ScenarioWriting.WrittenEvents.{AreNamed, name_of_subnet, subnet_is_word, subnet_read}
use Rattle.scenario.proofs.ScenarioWriting.WrittenPrefixes.{prefix_is_word, prefix_read}
use Rattle.scenario.proofs.ScenarioWriting.WrittenSettings.{number_is_read, settings_in_order, settings_are_words, settings_once, settings_read}

-- ---- words

role_is_word : (role : Role) → IsWord (role_text role)
role_is_word Host = spelled (codes "host") refl
role_is_word Router = spelled (codes "router") refl

role_read : (role : Role) → role_word (role_text role) ≡ Ok role
role_read Host = refl
role_read Router = refl

-- ---- room

room_for_address : (role : Role) (addresses front behind : List (List ℕ)) (address : List ℕ) → HasItsAddresses role addresses
    → addresses ≡ front ++ address ∷ behind → nat_lt (length front) (most_addresses role) ≡ true
room_for_address Host addresses front behind address its is =
    let long = ap length is ∙ length-append front (address ∷ behind) in
    let most = its.most in
    lt-ltb (length front) 8 (omega (arith, long, most))
room_for_address Router addresses front behind address its is =
    let long = ap length is ∙ length-append front (address ∷ behind) in
    lt-ltb (length front) 1 (omega (arith, long, its))

few_ports : (role : Role) (ports : List PortConfig) → HasItsPorts role ports → (1 ≤ length ports) × (length ports ≤ most_ports role)
few_ports Host ports its = (omega (arith, its), omega (arith, its))
few_ports Router ports its = (its.least, its.most)

few_in_all : (role : Role) (n : ℕ) → n ≤ most_ports role → n ≤ 8
few_in_all Host n h = omega (arith, h)
few_in_all Router n h = h

some_address : (role : Role) (addresses : List (List ℕ)) → HasItsAddresses role addresses → 1 ≤ length addresses
some_address Host addresses its = its.least
some_address Router addresses its = omega (arith, its)

routers_have_routes : (role : Role) (routes front behind : List Route) (route : Route) → HasItsRoutes role routes → routes ≡ front ++ route ∷ behind
    → (is_router role ≡ true) × (length front < 256)
routers_have_routes Host routes front behind route its is =
    let long = ap length is ∙ length-append front (route ∷ behind) in
    let none = ap length its in
    absurd (omega (arith, long, none))
routers_have_routes Router routes front behind route its is =
    let long = ap length is ∙ length-append front (route ∷ behind) in
    (refl, omega (arith, long, its))

-- no route so far has the next one's prefix
no_such_route : (front behind : List Route) (route : Route) → prefixes.AreDistinct (front ++ route ∷ behind)
    → AllByRecursion (λ other. prefixes.has_prefix route.prefix other ≡ false) front
no_such_route [] behind route distinct = tt
no_such_route (first ∷ front) behind route distinct = (
  other-back route.prefix first.prefix (all_between (λ other. prefixes.has_prefix first.prefix other ≡ false) front behind route distinct.0),
  no_such_route front behind route distinct.1,
)

skew_is_word : (version skew : ℕ) → AllByRecursion IsWord (skew_words version skew)
skew_is_word version skew = one_of (AllByRecursion IsWord) (version == 1) [] (decimal skew ∷ []) tt (decimal_is_word skew, tt)

-- the line `events`
ends : (n : ℕ) (d : Declarations) (rest : List ℕ) → has_limits d ≡ true → list_all is_complete d.systems ≡ true
    → declarations_from n d (lines_of (codes "events\n" ++ rest)) ≡ Ok (record { value = d; number = n + 1; lines = lines_of rest })
ends n d rest said complete = rw (said, complete) refl

-- ---- subnetworks

numbered_snpas_from : (subnet number : ℕ) (ports : List PortConfig)
    → map (λ (numbered : NumberedPort). numbered.port.snpa) (filter (λ (numbered : NumberedPort). numbered.port.subnet == subnet) (numbered_from number ports))
    ≡ map (λ (port : PortConfig). port.snpa) (filter (λ (port : PortConfig). port.subnet == subnet) ports)
numbered_snpas_from subnet number [] = refl
numbered_snpas_from subnet number (port ∷ ports) =
    elim (cases_Bool (port.subnet == subnet)) [
      | inl t ↦ rw t (ap (λ (snpas : List (List ℕ)). port.snpa ∷ snpas) (numbered_snpas_from subnet (number + 1) ports))
      | inr f ↦ rw f (numbered_snpas_from subnet (number + 1) ports)
    ]

numbered_snpas : (subnet : ℕ) (system : SystemConfiguration) → snpas_on subnet (declared_system system) ≡ snpas_of subnet system
numbered_snpas subnet system = numbered_snpas_from subnet 0 system.ports

-- a subnetwork of a port is there
there_with : (o : Option Subnetwork) (mtu : ℕ) → option_map (λ (subnet : Subnetwork). subnet.mtu) o ≡ Some mtu
    → (subnet : Subnetwork) × (o ≡ Some subnet) × (mtu_at o ≡ mtu)
there_with None mtu h = absurd (cc)
there_with (Some subnet) mtu h = (subnet, refl, let same : subnet.mtu ≡ mtu = cc in same)

module _ (law : ReadsBack) (plan : Plan) (fit : IsFit plan) where
  -- what is declared behind the lines of some subnetworks
  abbrev with_subnets : List Subnetwork → Declarations
  with_subnets subnets = record { version = plan.version; limits = Some plan.limits; subnets = subnets; systems = [] }

  subnet_goes : (front behind : List Subnetwork) (subnet : Subnetwork) (rest : List ℕ) → plan.subnets ≡ front ++ subnet ∷ behind
      → GoesOn (with_subnets front) (subnet_text subnet ++ rest) (with_subnets (front ++ subnet ∷ [])) rest
  subnet_goes front behind subnet rest is =
      let named : is_name subnet.name ≡ true
      = all_between (λ (subnet : Subnetwork). is_name subnet.name ≡ true) front behind subnet
      (subst (AllByRecursion (λ (subnet : Subnetwork). is_name subnet.name ≡ true)) is fit.named_subnets) in
      let mtu : IsWithin 512 65535 subnet.mtu
      = all_between (λ (subnet : Subnetwork). IsWithin 512 65535 subnet.mtu) front behind subnet
      (subst (AllByRecursion (λ (subnet : Subnetwork). IsWithin 512 65535 subnet.mtu)) is fit.mtus) in
      let long = ap length is ∙ length-append front (subnet ∷ behind) in
      let few = fit.few_subnets in
      line_goes (with_subnets front) (with_subnets (front ++ subnet ∷ [])) (codes "subnet") subnet.name (decimal subnet.mtu ∷ []) rest
      (spelled (codes "subnet") refl) refl (name_is_word subnet.name named, (decimal_is_word subnet.mtu, tt))
      (subnet_given (with_subnets front) subnet.name (decimal subnet.mtu) subnet.mtu named (mtu_digits subnet.mtu mtu)
      (not_taken (map (λ (subnet : Subnetwork). subnet.name) front) subnet.name
      (is_other (λ (subnet : Subnetwork). subnet.name) plan.subnets front behind subnet is fit.subnet_names))
      (mtu_read subnet.mtu mtu) (omega (arith, long, few)))

  subnets_go : (rest : List ℕ) → GoesOn (with_subnets []) (flat_map subnet_text plan.subnets ++ rest) (with_subnets plan.subnets) rest
  subnets_go rest = lines_go (λ front behind. with_subnets front) subnet_text plan.subnets subnet_goes [] plan.subnets rest refl

  -- ---- systems

  declared_bare : (front : List SystemConfiguration) (system : SystemConfiguration)
      → map declared_system (map bare front) ++ declared_system (bare system) ∷ [] ≡ map declared_system (map bare (front ++ system ∷ []))
  declared_bare front system =
      sym (map-append declared_system (map bare front) (bare system ∷ [])) ∙ ap (map declared_system) (sym (map-append bare front (system ∷ [])))

  names_are : (systems : List SystemConfiguration)
      → map (λ (system : DeclaredSystem). system.name) (map declared_system (map bare systems)) ≡ map (λ (system : SystemConfiguration). system.name) systems
  names_are systems =
      map-map declared_system (λ (system : DeclaredSystem). system.name) (map bare systems)
      ∙ map-map bare (λ (system : SystemConfiguration). system.name) systems

  system_goes : (front behind : List SystemConfiguration) (system : SystemConfiguration) (rest : List ℕ) → plan.systems ≡ front ++ system ∷ behind
      → GoesOn (declared_with plan (map bare front)) (system_text system ++ rest) (declared_with plan (map bare (front ++ system ∷ []))) rest
  unfolding system_text
  system_goes front behind system rest is =
      let named : is_name system.name ≡ true
      = all_between (λ (system : SystemConfiguration). is_name system.name ≡ true) front behind system
      (subst (AllByRecursion (λ (system : SystemConfiguration). is_name system.name ≡ true)) is fit.named_systems) in
      let its : IsSystem system = all_between IsSystem front behind system (subst (AllByRecursion IsSystem) is fit.systems) in
      let long = ap length is ∙ length-append front (system ∷ behind) in
      let few = fit.few_systems in
      let many = length-map (map bare front) declared_system ∙ length-map front bare in
      let free = is_other (λ (system : SystemConfiguration). system.name) plan.systems front behind system is fit.system_names in
      line_goes (declared_with plan (map bare front)) (declared_with plan (map bare (front ++ system ∷ []))) (codes "system") system.name
      (role_text system.role ∷ setting_texts system.settings) rest
      (spelled (codes "system") refl) refl (name_is_word system.name named, (role_is_word system.role, settings_are_words system.settings))
      (system_given (declared_with plan (map bare front)) system.name (role_text system.role) (setting_texts system.settings) system.role (settings_in_order system.settings)
      named (role_read system.role) (settings_read system.settings its.settings)
      (not_taken (system_names (declared_with plan (map bare front))) system.name (subst (AllByRecursion (λ other. other ≢ system.name)) (sym (names_are front)) free))
      (settings_once system.settings) (omega (arith, long, few, many))
      ∙ ap (λ (systems : List DeclaredSystem). Ok (record (declared_with plan []) { systems = systems })) (declared_bare front system))

  systems_go : (rest : List ℕ) → GoesOn (declared_with plan []) (flat_map system_text plan.systems ++ rest) (declared_with plan (map bare plan.systems)) rest
  systems_go rest = lines_go (λ front behind. declared_with plan (map bare front)) system_text plan.systems system_goes [] plan.systems rest refl

  -- ---- what one system has

  module _ (done later : List SystemConfiguration) (s : SystemConfiguration) (is : plan.systems ≡ done ++ s ∷ later) where
    -- what is declared where those before it have all that they have, and those behind it nothing
    abbrev so_far : SystemConfiguration → Declarations
    so_far part = declared_with plan (done ++ part ∷ map bare later)

    of_it : (P : SystemConfiguration → Type 0) → AllByRecursion P plan.systems → P s
    of_it P h = all_between P done later s (subst (AllByRecursion P) is h)

    its : IsSystem s
    its = of_it IsSystem fit.systems

    its_addresses : IsAddressed s
    its_addresses = of_it IsAddressed fit.each_address

    its_name : is_name s.name ≡ true
    its_name = of_it (λ (system : SystemConfiguration). is_name system.name ≡ true) fit.named_systems

    names_so_far : (part : SystemConfiguration) → part.name ≡ s.name
        → system_names (so_far part) ≡ map (λ (system : SystemConfiguration). system.name) plan.systems
    names_so_far part same =
        map-map declared_system (λ (system : DeclaredSystem). system.name) (done ++ part ∷ map bare later)
        ∙ map-append (λ (system : SystemConfiguration). system.name) done (part ∷ map bare later)
        ∙ rw (same, map-map bare (λ (system : SystemConfiguration). system.name) later) refl
        ∙ sym (map-append (λ (system : SystemConfiguration). system.name) done (s ∷ later))
        ∙ ap (map (λ (system : SystemConfiguration). system.name)) (sym is)

    its_place : (part : SystemConfiguration) → part.name ≡ s.name → declared_word (system_names (so_far part)) s.name ≡ Ok (length done)
    its_place part same =
        ap (λ (names : List (List ℕ)). declared_word names s.name) (names_so_far part same)
        ∙ declared_word_read (map (λ (system : SystemConfiguration). system.name) plan.systems) s.name (length done) its_name fit.system_names
        (ap (λ (systems : List SystemConfiguration). slice_get (map (λ (system : SystemConfiguration). system.name) systems) (length done)) is
        ∙ found_between (λ (system : SystemConfiguration). system.name) done later s)

    at_its_place : (part : SystemConfiguration) → slice_get (so_far part).systems (length done) ≡ Some (declared_system part)
    at_its_place part = found_between declared_system done (map bare later) part

    -- a change of what it has so far
    changes : (change : DeclaredSystem → DeclaredSystem) (part next : SystemConfiguration) → change (declared_system part) ≡ declared_system next
        → ◌≡◌ {A = Result Declarations Code} (Ok (record (so_far part) { systems = changed_at change (length done) (so_far part).systems })) (Ok (so_far next))
    changes change part next e =
        let declared : List DeclaredSystem → Result Declarations Code = λ (systems : List DeclaredSystem). Ok (record (so_far part) { systems = systems }) in
        ap declared (changed_between declared_system change done (map bare later) part next e)

    -- ---- its addresses

    abbrev with_addresses : List (List ℕ) → SystemConfiguration
    with_addresses addresses = record s { addresses = addresses; ports = []; routes = [] }

    address_goes : (front behind : List (List ℕ)) (address : List ℕ) (rest : List ℕ) → s.addresses ≡ front ++ address ∷ behind
        → GoesOn (so_far (with_addresses front)) (address_text s.name address ++ rest) (so_far (with_addresses (front ++ address ∷ []))) rest
    address_goes front behind address rest has =
        let part : SystemConfiguration = with_addresses front in
        let next : SystemConfiguration = with_addresses (front ++ address ∷ []) in
        let formed : IsAddress address
        = all_between IsAddress front behind address (subst (AllByRecursion IsAddress) has (recursion_from_All IsAddress s.addresses its_addresses.own)) in
        let all : flat_map (λ (system : DeclaredSystem). system.addresses) (so_far part).systems ≡ flat_map (λ (system : SystemConfiguration). system.addresses) done ++ front
        = together declared_system (λ (system : DeclaredSystem). system.addresses) (λ (system : SystemConfiguration). system.addresses) bare (λ system. refl) (λ system. refl) done later part in
        let other = has_other (λ (system : SystemConfiguration). system.addresses) plan.systems done later s front behind address is has fit.addresses in
        line_goes (so_far part) (so_far next) (codes "address") s.name (hex_text address ∷ []) rest
        (spelled (codes "address") refl) refl (name_is_word s.name its_name, (address_is_word address formed, tt))
        (address_given (so_far part) s.name (hex_text address) address (length done) (declared_system part) (its_place part refl) (address_word_read law address formed)
        (not_among address (flat_map (λ (system : DeclaredSystem). system.addresses) (so_far part).systems) (subst (AllByRecursion (λ other. other ≢ address)) (sym all) other))
        (at_its_place part) (room_for_address s.role s.addresses front behind address its.addresses has)
        ∙ changes (with_address address) part next refl)

    addresses_go : (rest : List ℕ)
        → GoesOn (so_far (with_addresses [])) (flat_map (address_text s.name) s.addresses ++ rest) (so_far (with_addresses s.addresses)) rest
    addresses_go rest = lines_go (λ front behind. so_far (with_addresses front)) (address_text s.name) s.addresses address_goes [] s.addresses rest refl

    -- ---- its ports

    abbrev with_ports : List PortConfig → SystemConfiguration
    with_ports ports = record s { ports = ports; routes = [] }

    snpas_in : (front behind : List PortConfig) (port : PortConfig) → s.ports ≡ front ++ port ∷ behind
        → snpas_of port.subnet s
        ≡ snpas_of port.subnet (with_ports front) ++ port.snpa ∷ map (λ (port : PortConfig). port.snpa) (filter (λ (other : PortConfig). other.subnet == port.subnet) behind)
    snpas_in front behind port has =
        let on : PortConfig → Bool = λ (other : PortConfig). other.subnet == port.subnet in
        let snpa : PortConfig → List ℕ = λ (other : PortConfig). other.snpa in
        ap (λ (ports : List PortConfig). map snpa (filter on ports)) has
        ∙ ap (map snpa) (filter-append on front (port ∷ behind))
        ∙ rw (eq-eqb port.subnet port.subnet refl) (map-append snpa (filter on front) (port ∷ filter on behind))

    port_goes : (front behind : List PortConfig) (port : PortConfig) (number : ℕ) (rest : List ℕ) → length front ≡ number → s.ports ≡ front ++ port ∷ behind
        → GoesOn (so_far (with_ports front)) (port_text plan.subnets s.name number port ++ rest) (so_far (with_ports (front ++ port ∷ []))) rest
    port_goes front behind port number rest at has =
        let part : SystemConfiguration = with_ports front in
        let next : SystemConfiguration = with_ports (front ++ port ∷ []) in
        let formed : IsAddress port.snpa
        = all_between (λ (port : PortConfig). IsAddress port.snpa) front behind port (subst (AllByRecursion (λ (port : PortConfig). IsAddress port.snpa)) has its_addresses.ports) in
        let sized : IsPort port = all_between IsPort front behind port (subst (AllByRecursion IsPort) has its.each_port) in
        let on : IsOn plan.subnets port
        = all_between (IsOn plan.subnets) front behind port (subst (AllByRecursion (IsOn plan.subnets)) has (of_it (λ (system : SystemConfiguration). AllByRecursion (IsOn plan.subnets) system.ports) fit.ports)) in
        let subnet = there_with (slice_get plan.subnets port.subnet) port.mtu on in
        let within : port.subnet < length plan.subnets = slice_get_within plan.subnets port.subnet subnet.0 subnet.1 in
        let named : AreNamed name_of_subnet plan.subnets = record { distinct = fit.subnet_names; names = fit.named_subnets } in
        let long = ap length has ∙ length-append front (port ∷ behind) in
        let few = few_ports s.role s.ports its.ports in
        let all : flat_map (snpas_on port.subnet) (so_far part).systems ≡ flat_map (snpas_of port.subnet) done ++ snpas_of port.subnet part
        = together declared_system (snpas_on port.subnet) (snpas_of port.subnet) bare (numbered_snpas port.subnet) (λ system. refl) done later part in
        let other = has_other (snpas_of port.subnet) plan.systems done later s (snpas_of port.subnet part)
        (map (λ (port : PortConfig). port.snpa) (filter (λ (other : PortConfig). other.subnet == port.subnet) behind)) port.snpa is (snpas_in front behind port has) (fit.snpas port.subnet) in
        let different = is_other (λ (port : PortConfig). port.subnet) s.ports front behind port has (of_it (λ (system : SystemConfiguration). AreOnDifferent system.ports) fit.different) in
        let numbered : IsWithin 0 7 number = record { least = omega arith; most = omega (arith, at, long, few.1, few_in_all s.role (length s.ports) few.1) } in
        line_goes (so_far part) (so_far next) (codes "port") s.name (decimal number ∷ subnet_name (slice_get plan.subnets port.subnet) ∷ hex_text port.snpa ∷ decimal port.transit ∷ []) rest
        (spelled (codes "port") refl) refl (
          name_is_word s.name its_name,
          (
            decimal_is_word number,
            (
              subnet_is_word plan.subnets port.subnet named within,
              (address_is_word port.snpa formed, (decimal_is_word port.transit, tt)),
            ),
          ),
        )
        (port_given (so_far part) s.name (decimal number) (subnet_name (slice_get plan.subnets port.subnet)) (hex_text port.snpa) (decimal port.transit) (length done) number port (declared_system part)
        (its_place part refl) (number_is_read 0 7 number (omega arith) numbered) (subnet_read plan.subnets port.subnet named within) (address_word_read law port.snpa formed)
        (number_is_read 1 255 port.transit (omega arith) sized.transit) (at_its_place part)
        (no_such_port 0 number port.subnet front (omega (arith, at)) different)
        (not_among port.snpa (flat_map (snpas_on port.subnet) (so_far part).systems) (subst (AllByRecursion (λ other. other ≢ port.snpa)) (sym all) other))
        (rw (length-numbered_from 0 front) (lt-ltb (length front) (most_ports s.role) (omega (arith, long, few.1))))
        subnet.2
        ∙ changes (with_port (record { number = number; port = port })) part next
        (ap (λ (ports : List NumberedPort). record (declared_system part) { ports = ports }) (next_port number front port at)))

    ports_go : (front behind : List PortConfig) (number : ℕ) (rest : List ℕ) → length front ≡ number → s.ports ≡ front ++ behind
        → GoesOn (so_far (with_ports front)) (port_texts plan.subnets s.name number behind ++ rest) (so_far (with_ports s.ports)) rest
    ports_go front [] number rest at has =
        subst (λ ports. GoesOn (so_far (with_ports front)) rest (so_far (with_ports ports)) rest) (sym (has ∙ append-nil front)) (stays (so_far (with_ports front)) rest)
    ports_go front (port ∷ behind) number rest at has =
        let more : List ℕ = port_texts plan.subnets s.name (number + 1) behind ++ rest in
        subst (λ text. GoesOn (so_far (with_ports front)) text (so_far (with_ports s.ports)) rest)
        (sym (append_assoc (port_text plan.subnets s.name number port) (port_texts plan.subnets s.name (number + 1) behind) rest))
        (goes_through (so_far (with_ports front)) (so_far (with_ports (front ++ port ∷ []))) (so_far (with_ports s.ports)) (port_text plan.subnets s.name number port ++ more) more rest
        (port_goes front behind port number more at has)
        (ports_go (front ++ port ∷ []) behind (number + 1) rest (length-append front (port ∷ []) ∙ omega (arith, at)) (has ∙ sym (append_assoc front (port ∷ []) behind))))

    -- ---- its routes

    abbrev with_routes : List Route → SystemConfiguration
    with_routes routes = record s { routes = routes }

    route_goes : (front behind : List Route) (route : Route) (rest : List ℕ) → s.routes ≡ front ++ route ∷ behind
        → GoesOn (so_far (with_routes front)) (route_text s.name route ++ rest) (so_far (with_routes (front ++ route ∷ []))) rest
    route_goes front behind route rest has =
        let part : SystemConfiguration = with_routes front in
        let next : SystemConfiguration = with_routes (front ++ route ∷ []) in
        let formed : IsAddressedRoute route = all_between IsAddressedRoute front behind route (subst (AllByRecursion IsAddressedRoute) has its_addresses.routes) in
        let prefix : IsPrefix route.prefix
        = all_between (λ (route : Route). IsPrefix route.prefix) front behind route (subst (AllByRecursion (λ (route : Route). IsPrefix route.prefix)) has
        (of_it (λ (system : SystemConfiguration). AllByRecursion (λ (route : Route). IsPrefix route.prefix) system.routes) fit.prefixes)) in
        let out : route.port < length s.ports
        = all_between (λ (route : Route). route.port < length s.ports) front behind route (subst (AllByRecursion (λ (route : Route). route.port < length s.ports)) has its.each_route) in
        let few = few_ports s.role s.ports its.ports in
        let port : IsWithin 0 7 route.port = record { least = omega arith; most = omega (arith, out, few.1, few_in_all s.role (length s.ports) few.1) } in
        let router = routers_have_routes s.role s.routes front behind route its.routes has in
        line_goes (so_far part) (so_far next) (codes "route") s.name (prefix_text route.prefix ∷ decimal route.port ∷ hex_text route.snpa ∷ hex_text route.title ∷ []) rest
        (spelled (codes "route") refl) refl (
          name_is_word s.name its_name,
          (
            prefix_is_word route.prefix prefix,
            (decimal_is_word route.port, (address_is_word route.snpa formed.snpa, (address_is_word route.title formed.title, tt))),
          ),
        )
        (route_given (so_far part) s.name (prefix_text route.prefix) (decimal route.port) (hex_text route.snpa) (hex_text route.title) (length done) route (declared_system part)
        (its_place part refl) (at_its_place part) router.0 (prefix_read route.prefix prefix) (number_is_read 0 7 route.port (omega arith) port)
        (number_is_there 0 route.port s.ports (omega arith) (omega (arith, out))) (address_word_read law route.snpa formed.snpa) (address_word_read law route.title formed.title)
        (none_pass (prefixes.has_prefix route.prefix) front (no_such_route front behind route (subst prefixes.AreDistinct has its.distinct_routes)))
        (lt-ltb (length front) 256 router.1)
        ∙ changes (with_route route) part next refl)

    routes_go : (rest : List ℕ) → GoesOn (so_far (with_routes [])) (flat_map (route_text s.name) s.routes ++ rest) (so_far s) rest
    routes_go rest = lines_go (λ front behind. so_far (with_routes front)) (route_text s.name) s.routes route_goes [] s.routes rest refl

    -- ---- all of it

    belongings_go : (rest : List ℕ) → GoesOn (so_far (bare s)) (belongings_text plan.subnets s ++ rest) (so_far s) rest
    unfolding belongings_text
    belongings_go rest =
        let addresses : List ℕ = flat_map (address_text s.name) s.addresses in
        let ports : List ℕ = port_texts plan.subnets s.name 0 s.ports in
        let routes : List ℕ = flat_map (route_text s.name) s.routes in
        let parts : ((addresses ++ ports) ++ routes) ++ rest ≡ addresses ++ (ports ++ (routes ++ rest)) = simp append_assoc in
        subst (λ text. GoesOn (so_far (bare s)) text (so_far s) rest) (sym parts)
        (goes_through (so_far (bare s)) (so_far (with_ports [])) (so_far s) (addresses ++ (ports ++ (routes ++ rest))) (ports ++ (routes ++ rest)) rest
        (addresses_go (ports ++ (routes ++ rest)))
        (goes_through (so_far (with_ports [])) (so_far (with_routes [])) (so_far s) (ports ++ (routes ++ rest)) (routes ++ rest) rest
        (ports_go [] s.ports 0 (routes ++ rest) refl refl) (routes_go rest)))

  -- ---- all systems, and all declarations

  system_has : (front behind : List SystemConfiguration) (system : SystemConfiguration) (rest : List ℕ) → plan.systems ≡ front ++ system ∷ behind
      → GoesOn (declared_with plan (front ++ map bare (system ∷ behind))) (belongings_text plan.subnets system ++ rest)
      (declared_with plan ((front ++ system ∷ []) ++ map bare behind)) rest
  system_has front behind system rest is =
      subst (λ systems. GoesOn (declared_with plan (front ++ map bare (system ∷ behind))) (belongings_text plan.subnets system ++ rest) (declared_with plan systems) rest)
      (sym (append_assoc front (system ∷ []) (map bare behind)))
      (belongings_go front behind system is rest)

  all_have : (rest : List ℕ) → GoesOn (declared_with plan (map bare plan.systems)) (flat_map (belongings_text plan.subnets) plan.systems ++ rest) (declared_of plan) rest
  all_have rest =
      subst (λ systems. GoesOn (declared_with plan (map bare plan.systems)) (flat_map (belongings_text plan.subnets) plan.systems ++ rest) (declared_with plan systems) rest)
      (append-nil plan.systems)
      (lines_go (λ front behind. declared_with plan (front ++ map bare behind)) (belongings_text plan.subnets) plan.systems system_has [] plan.systems rest refl)

  -- what is declared where a text of the plan's version begins
  abbrev nothing_yet : Declarations
  nothing_yet = nothing_declared plan.version

  limits_go : (rest : List ℕ) → GoesOn nothing_yet (limits_text plan.version plan.limits ++ rest) (with_subnets []) rest
  limits_go rest =
      line_goes nothing_yet (with_subnets []) (codes "limits") (decimal plan.limits.age)
      (decimal plan.limits.hold ∷ decimal plan.limits.reuse ∷ skew_words plan.version plan.limits.skew) rest
      (spelled (codes "limits") refl) refl (
        decimal_is_word plan.limits.age,
        (decimal_is_word plan.limits.hold, (decimal_is_word plan.limits.reuse, skew_is_word plan.version plan.limits.skew)),
      )
      (limits_given plan.version plan.limits fit.version fit.limits fit.together)

  pub declarations_go : (rest : List ℕ) → GoesOn nothing_yet (declarations_text plan ++ rest) (declared_of plan) rest
  declarations_go rest =
      let subnets : List ℕ = flat_map subnet_text plan.subnets in
      let systems : List ℕ = flat_map system_text plan.systems in
      let belongings : List ℕ = flat_map (belongings_text plan.subnets) plan.systems in
      let parts : (((limits_text plan.version plan.limits ++ subnets) ++ systems) ++ belongings) ++ rest ≡ limits_text plan.version plan.limits ++ (subnets ++ (systems ++ (belongings ++ rest)))
      = append_assoc ((limits_text plan.version plan.limits ++ subnets) ++ systems) belongings rest
      ∙ append_assoc (limits_text plan.version plan.limits ++ subnets) systems (belongings ++ rest)
      ∙ append_assoc (limits_text plan.version plan.limits) subnets (systems ++ (belongings ++ rest)) in
      subst (λ text. GoesOn nothing_yet text (declared_of plan) rest) (sym parts)
      (goes_through nothing_yet (with_subnets []) (declared_of plan) (limits_text plan.version plan.limits ++ (subnets ++ (systems ++ (belongings ++ rest)))) (subnets ++ (systems ++ (belongings ++ rest))) rest
      (limits_go (subnets ++ (systems ++ (belongings ++ rest))))
      (goes_through (with_subnets []) (with_subnets plan.subnets) (declared_of plan) (subnets ++ (systems ++ (belongings ++ rest))) (systems ++ (belongings ++ rest)) rest
      (subnets_go (systems ++ (belongings ++ rest)))
      (goes_through (declared_with plan []) (declared_with plan (map bare plan.systems)) (declared_of plan) (systems ++ (belongings ++ rest)) (belongings ++ rest) rest
      (systems_go (belongings ++ rest)) (all_have rest))))

  -- ---- up to `events`

  complete : (systems : List SystemConfiguration) → AllByRecursion IsSystem systems → list_all is_complete (map declared_system systems) ≡ true
  complete [] h = refl
  complete (system ∷ systems) h =
      rw (
        no_gap system.ports,
        le-leb 1 (length system.addresses) (some_address system.role system.addresses h.0.addresses),
        length-numbered_from 0 system.ports,
        le-leb 1 (length system.ports) (few_ports system.role system.ports h.0.ports).0,
      ) (complete systems h.1)

  -- What is written of the declarations is read as what is declared, up to the line behind `events`.
  pub declarations_read : (n : ℕ) (rest : List ℕ)
      → (m : ℕ) × (declarations_from n (nothing_declared plan.version) (lines_of (declarations_text plan ++ (codes "events\n" ++ rest)))
      ≡ Ok (record { value = declared_of plan; number = m; lines = lines_of rest }))
  declarations_read n rest =
      let before = declarations_go (codes "events\n" ++ rest) n in
      (before.0 + 1, before.1 ∙ ends before.0 (declared_of plan) rest refl (complete plan.systems fit.systems))
