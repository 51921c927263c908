-- Each scenario that the grammar accepts is fit: what its lines declare stays fit, line by line.
use Rattle.std.proofs.Common.{◌≡◌, ℕ, zero, suc, ◌+◌, ◌*◌, ◌<◌, ◌≤◌, ◌==◌, ◌&&◌, ◌||◌, Bool, true, false, not, nat_le, nat_lt, List, [], ◌∷◌, ◌++◌, map, length, slice_get, codes, Option, None, Some, option_map, is_some, Result, Ok, Err, IfOk, refl, sym, subst, arith, length-append}
use Rattle.std.specs.List.{AllByRecursion, flat_map, list_all, list_any}
use Rattle.std.specs.Str.{bytes_eq}
use Rattle.std.proofs.lemmas.Bool.{leb-true, ltb-true, eqb-true, and_parts, not-true, true≢false}
use Rattle.std.proofs.lemmas.List.{length-map, map-append}
use Rattle.std.proofs.lemmas.Result.{IfOk-at_ok}
use Rattle.std.proofs.lemmas.List.Edits.{length-insert}
use Rattle.std.proofs.lemmas.List.Sums.{count_by-le-length}
use Rattle.clnp_plan.proofs.ClnpBase.Lists.{AllByRecursion-mapped, AllByRecursion-push}
use Rattle.clnp_plan.specs.ClnpBase.Text.{decimal_of, words_of, is_skipped}
use Rattle.clnp_plan.specs.Forwarding.Distinct as prefixes
use Rattle.clnp_plan.specs.SystemTables.declared.forwarding.route.Route.{Route}
use Rattle.clnp_plan.proofs.Forwarding.Prefixes.{AreDistinct-push}
use Rattle.clnp_plan.specs.Configuration.{IsWithin, HasItsAddresses, HasItsPorts, HasItsRoutes, IsPort, IsSystem, AreSettings, AreLimits, SystemConfiguration}
use Rattle.clnp_plan.specs.declared.config.PortConfig.{PortConfig}
use Rattle.clnp_plan.specs.declared.config.Role.{Role}
use Rattle.clnp_plan.specs.declared.config.Role.TheVariants.{Host, Router}
use Rattle.clnp_plan.specs.declared.config.Settings.{Settings}
use Rattle.clnp_plan.specs.ScenarioPlan.Plan.{Subnetwork, AreOnDifferent, IsOn}
use Rattle.scenario.specs.Words.{◌>>=◌, wanted, found, is_name, name_word, declared_word, number_within, number_word, number_behind, has_prefix, address_word, prefix_word, is_digits, is_taken, is_one_at_most, each_once, two_words, three_words, five_words, first_two, first_four}
use Rattle.scenario.specs.Declarations.{Declarations, DeclaredSystem, NumberedPort, nothing_declared, subnet_names, system_names, with_address, with_port, most_addresses, most_ports, takes_address, takes_port, count_below, has_port, snpas_on, mtu_at, limits_of, limits_words, limits_line, subnet_line, checksum_word, room_word, setting_word, setting_words, key_of, with_setting, settings_of, role_word, system_line, address_line, transit_word, port_line, is_router, is_router_at, router_word, has_number, has_numbered, port_word, has_route, takes_route, with_route, route_line, declaration_line, is_complete, has_limits, all_declared, have_no_gap, configuration_of}
use Rattle.clnp_plan.specs.ScenarioPlan.Standing.{changed_at, is_among}
use Rattle.scenario.specs.Grammar.{ReadTo, is_line_of, declarations_from}
use Rattle.scenario.specs.declared.code.Code.{Code}
use Rattle.scenario.specs.declared.code.Code.TheVariants as bad
use Rattle.scenario.specs.declared.setting.Setting.{Setting}
use Rattle.scenario.specs.declared.setting.Setting.TheVariants.{Hello, Suggest, Checksum, Life, RedirectHold, Slots, Segments, Budget, Neighbours, Routers, Redirects}
use Rattle.scenario.proofs.Behind.{behind_result, behind_found, behind_wanted, behind_such, behind_line_such, if_wanted, either_way, found_is_within, number_is_within, number_behind_is_within, declared_is_within, is_within}
use Rattle.scenario.proofs.Apart.{addresses_of, AreApart, new_of, add_address, port_leaves, system_leaves, distinct_of, front_apart, back_apart}
use Rattle.scenario.proofs.Kept.{map_leaves, all_leaves, length_leaves, empty_leaves, one_gets, one_more_name, AreOn, all_stay, mtu_is, subnets_of, on_one_more, configurations_different, port_gets, port_elsewhere, all_among}
use Rattle.scenario.proofs.Numbers.{LeadOut, lead_on, lead_below}

-- what the lines so far say of a system is within bounds
pub record IsDeclared (system : DeclaredSystem) : Type 0 where
  pub addresses : length system.addresses ≤ most_addresses system.role
  pub few_ports : length system.ports ≤ most_ports system.role
  pub ports : AllByRecursion (λ (numbered : NumberedPort). IsPort numbered.port) system.ports
  pub different : AreApart (subnets_of system.ports)
  pub routes : HasItsRoutes system.role system.routes
  pub distinct_routes : prefixes.AreDistinct system.routes
  pub each_route : LeadOut system.ports system.routes
  pub settings : AreSettings system.settings
  pub named : is_name system.name ≡ true

-- what the lines so far declare is within bounds, and no address belongs to two systems
pub record AreFit (d : Declarations) : Type 0 where
  pub limits : AreLimits (limits_of d.limits)
  pub together : d.version ≡ 1 → (limits_of d.limits).skew ≡ 0
  pub subnets : AllByRecursion (λ (subnet : Subnetwork). IsWithin 512 65535 subnet.mtu) d.subnets
  pub named : AllByRecursion (λ (subnet : Subnetwork). is_name subnet.name ≡ true) d.subnets
  pub systems : AllByRecursion IsDeclared d.systems
  pub addresses : AreApart (addresses_of d.systems)
  pub subnet_names : AreApart (map (λ (subnet : Subnetwork). subnet.name) d.subnets)
  pub system_names : AreApart (map (λ (system : DeclaredSystem). system.name) d.systems)
  pub few_subnets : length d.subnets ≤ 64
  pub few_systems : length d.systems ≤ 64
  pub snpas : (q : ℕ) → AreApart (flat_map (snpas_on q) d.systems)
  pub on : AllByRecursion (λ (system : DeclaredSystem). AreOn d.subnets system.ports) d.systems

pub changed : {X : Type 0} (P : X → Type 0) (change : X → X) (place : ℕ) (xs : List X) → AllByRecursion P xs
    → ((x : X) → slice_get xs place ≡ Some x → P x → P (change x)) → AllByRecursion P (changed_at change place xs)
changed P change place [] h keeps = tt
changed P change zero (x ∷ xs) h keeps = (keeps x refl h.0, h.1)
changed P change (suc place) (x ∷ xs) h keeps = (h.0, changed P change place xs h.1 keeps)

-- in version 1 no word says how far apart clocks may stand
no_skew : (version : ℕ) (words : List (List ℕ)) (w : List ℕ × List ℕ × List ℕ × List ℕ) → limits_words version words ≡ Some w → version ≡ 1 → w.3 ≡ codes "0"
no_skew version words w is one = of_three (three_words words) (subst (λ v. limits_words v words ≡ Some w) one is)
  where
    of_three : (three : Option (List ℕ × List ℕ × List ℕ)) → option_map (λ (v : List ℕ × List ℕ × List ℕ). (v.0, v.1, v.2, codes "0")) three ≡ Some w → w.3 ≡ codes "0"
    of_three None is = cc is
    of_three (Some v) is = cc is

-- how far apart clocks may stand: not at all where the word is 0
record IsSkew (word : List ℕ) (skew : ℕ) : Type 0 where
  pub within : IsWithin 0 4096 skew
  pub none : word ≡ codes "0" → skew ≡ 0

skew_read : (word : List ℕ) → IfOk (number_word 0 4096 word) (IsSkew word)
skew_read word = with_word (number_word 0 4096 word) refl (number_is_within 0 4096 word)
  where
    with_word : (read : Result ℕ Code) → number_word 0 4096 word ≡ read → IfOk read (IsWithin 0 4096) → IfOk read (IsSkew word)
    with_word (Ok skew) is within = record { within = within; none = λ none. IfOk-at_ok (λ n. n ≡ 0) (rw none at is) refl }
    with_word (Err code) is within = tt

pub limits_fit : (d : Declarations) (words : List (List ℕ)) → AreFit d → IfOk (limits_line d words) AreFit
unfolding limits_line
limits_fit d words h =
    behind_found (limits_words d.version words) _ _ AreFit (λ w words_are.
    behind_such (number_word 1 4096 w.0) _ (IsWithin 1 4096) AreFit (number_is_within 1 4096 w.0) (λ age age_in.
    behind_such (number_word 1 255 w.1) _ (IsWithin 1 255) AreFit (number_is_within 1 255 w.1) (λ hold hold_in.
    behind_such (number_word 1 16384 w.2) _ (IsWithin 1 16384) AreFit (number_is_within 1 16384 w.2) (λ reuse reuse_in.
    behind_such (number_word 0 4096 w.3) _ (IsSkew w.3) AreFit (skew_read w.3) (λ skew skew_is.
    behind_wanted (not (is_some d.limits)) _ _ AreFit (λ _.
    behind_wanted (nat_le (age + hold + 2 * skew) reuse) _ _ AreFit (λ rests.
    record {
      limits = record {
        age = age_in;
        hold = hold_in;
        reuse = reuse_in;
        skew = skew_is.within;
        rests = leb-true (age + hold + 2 * skew) reuse rests;
      };
      together = λ one. skew_is.none (no_skew d.version words w words_are one);
      subnets = h.subnets;
      named = h.named;
      systems = h.systems;
      addresses = h.addresses;
      subnet_names = h.subnet_names;
      system_names = h.system_names;
      few_subnets = h.few_subnets;
      few_systems = h.few_systems;
      snpas = h.snpas;
      on = h.on;
    })))))))

-- a word that is read as a name is one
abbrev IsNamed : List ℕ → Type 0
IsNamed name = is_name name ≡ true

name_is : (word : List ℕ) → IfOk (name_word word) IsNamed
name_is word = behind_wanted (is_name word) bad.Syntax (λ _. Ok word) IsNamed (λ is. is)

pub subnet_fit : (d : Declarations) (words : List (List ℕ)) → AreFit d → IfOk (subnet_line d words) AreFit
unfolding subnet_line
subnet_fit d words h =
    behind_found (two_words words) _ _ AreFit (λ w _.
    behind_such (name_word w.0) _ IsNamed AreFit (name_is w.0) (λ name is_named.
    behind_wanted (is_digits w.1) _ _ AreFit (λ _.
    behind_wanted (not (is_taken (subnet_names d) name)) _ _ AreFit (λ free.
    behind_such (found (number_within 512 65535 (decimal_of w.1)) bad.Mtu) _ (IsWithin 512 65535) AreFit (found_is_within 512 65535 (decimal_of w.1) bad.Mtu) (λ mtu mtu_in.
    behind_wanted (nat_lt (length d.subnets) 64) _ _ AreFit (λ few.
    let subnet : Subnetwork = record { name = name; mtu = mtu } in
    record {
      limits = h.limits;
      together = h.together;
      subnets = AllByRecursion-push (λ (subnet : Subnetwork). IsWithin 512 65535 subnet.mtu) d.subnets subnet h.subnets mtu_in;
      named = AllByRecursion-push (λ (subnet : Subnetwork). is_name subnet.name ≡ true) d.subnets subnet h.named is_named;
      systems = h.systems;
      addresses = h.addresses;
      subnet_names = rw (map-append (λ (subnet : Subnetwork). subnet.name) d.subnets (subnet ∷ []))
          (one_more_name (subnet_names d) name (not-true (is_taken (subnet_names d) name) free) h.subnet_names);
      system_names = h.system_names;
      few_subnets = rw length-append (omega (arith, ltb-true (length d.subnets) 64 few));
      few_systems = h.few_systems;
      snpas = h.snpas;
      on = all_stay d.subnets subnet d.systems h.on;
    }))))))

-- what a setting says is within bounds
abbrev pub SaysWithin : Setting → Type 0
SaysWithin (Hello seconds) = IsWithin 0 600 seconds
SaysWithin (Suggest seconds) = IsWithin 0 32767 seconds
SaysWithin (Checksum on) = Unit {0}
SaysWithin (Life life) = IsWithin 1 255 life
SaysWithin (RedirectHold seconds) = IsWithin 0 65535 seconds
SaysWithin (Slots slots) = IsWithin 1 1024 slots
SaysWithin (Segments segments) = IsWithin 1 16384 segments
SaysWithin (Budget budget) = IsWithin 512 4194304 budget
SaysWithin (Neighbours neighbours) = IsWithin 1 1024 neighbours
SaysWithin (Routers routers) = IsWithin 1 64 routers
SaysWithin (Redirects redirects) = IsWithin 1 1024 redirects

number_says : (key : List ℕ) (low high : ℕ) (word : List ℕ) (f : ℕ → Setting)
    → ((n : ℕ) → IsWithin low high n → SaysWithin (f n)) → IfOk (number_behind key low high word >>= λ n. Ok (f n)) SaysWithin
number_says key low high word f h =
    behind_such (number_behind key low high word) (λ n. Ok (f n)) (IsWithin low high) SaysWithin (number_behind_is_within key low high word) h

room_fit : (word : List ℕ) → IfOk (room_word word) SaysWithin
unfolding room_word
room_fit word =
    either_way (has_prefix (codes "slots=") word) _ _ SaysWithin (number_says (codes "slots=") 1 1024 word (λ n. Slots n) (λ n h. h))
    (either_way (has_prefix (codes "segments=") word) _ _ SaysWithin (number_says (codes "segments=") 1 16384 word (λ n. Segments n) (λ n h. h))
    (either_way (has_prefix (codes "budget=") word) _ _ SaysWithin (number_says (codes "budget=") 512 4194304 word (λ n. Budget n) (λ n h. h))
    (either_way (has_prefix (codes "neighbours=") word) _ _ SaysWithin (number_says (codes "neighbours=") 1 1024 word (λ n. Neighbours n) (λ n h. h))
    (either_way (has_prefix (codes "routers=") word) _ _ SaysWithin (number_says (codes "routers=") 1 64 word (λ n. Routers n) (λ n h. h))
    (number_says (codes "redirects=") 1 1024 word (λ n. Redirects n) (λ n h. h))))))

checksum_fit : (word : List ℕ) → IfOk (checksum_word word) SaysWithin
checksum_fit word =
    either_way (bytes_eq word (codes "checksum=on")) _ _ SaysWithin tt (either_way (bytes_eq word (codes "checksum=off")) _ _ SaysWithin tt tt)

setting_fit : (word : List ℕ) → IfOk (setting_word word) SaysWithin
unfolding setting_word
setting_fit word =
    either_way (has_prefix (codes "life=") word) _ _ SaysWithin (number_says (codes "life=") 1 255 word (λ n. Life n) (λ n h. h))
    (either_way (has_prefix (codes "checksum=") word) _ _ SaysWithin (checksum_fit word)
    (either_way (has_prefix (codes "rhold=") word) _ _ SaysWithin (number_says (codes "rhold=") 0 65535 word (λ n. RedirectHold n) (λ n h. h))
    (either_way (has_prefix (codes "hello=") word) _ _ SaysWithin (number_says (codes "hello=") 0 600 word (λ n. Hello n) (λ n h. h))
    (either_way (has_prefix (codes "suggest=") word) _ _ SaysWithin (number_says (codes "suggest=") 0 32767 word (λ n. Suggest n) (λ n h. h))
    (room_fit word)))))

with_fit : (setting : Setting) (settings : Settings) → SaysWithin setting → AreSettings settings → AreSettings (with_setting setting settings)
with_fit (Hello seconds) settings fits h = assumption (fits, h)
with_fit (Suggest seconds) settings fits h = assumption (fits, h)
with_fit (Checksum on) settings fits h = assumption h
with_fit (Life life) settings fits h = assumption (fits, h)
with_fit (RedirectHold seconds) settings fits h = assumption (fits, h)
with_fit (Slots slots) settings fits h = assumption (fits, h)
with_fit (Segments segments) settings fits h = assumption (fits, h)
with_fit (Budget budget) settings fits h = assumption (fits, h)
with_fit (Neighbours neighbours) settings fits h = assumption (fits, h)
with_fit (Routers routers) settings fits h = assumption (fits, h)
with_fit (Redirects redirects) settings fits h = assumption (fits, h)

usual_fit : AreSettings (settings_of [])
usual_fit =
    record {
      hello = is_within 0 600 60 (omega arith) (omega arith);
      suggest = is_within 0 32767 0 (omega arith) (omega arith);
      rhold = is_within 0 65535 120 (omega arith) (omega arith);
      slots = is_within 1 1024 16 (omega arith) (omega arith);
      segments = is_within 1 16384 1024 (omega arith) (omega arith);
      budget = is_within 512 4194304 262144 (omega arith) (omega arith);
      neighbours = is_within 1 1024 64 (omega arith) (omega arith);
      routers = is_within 1 64 8 (omega arith) (omega arith);
      redirects = is_within 1 1024 64 (omega arith) (omega arith);
      life = is_within 1 255 64 (omega arith) (omega arith);
    }

settings_fit : (settings : List Setting) → AllByRecursion SaysWithin settings → AreSettings (settings_of settings)
settings_fit [] h = usual_fit
settings_fit (setting ∷ others) h = with_fit setting (settings_of others) h.0 (settings_fit others h.1)

words_fit : (words : List (List ℕ)) → IfOk (setting_words words) (λ settings. AllByRecursion SaysWithin settings)
words_fit [] = tt
words_fit (word ∷ words) =
    behind_such (setting_word word) _ SaysWithin (λ settings. AllByRecursion SaysWithin settings) (setting_fit word) (λ setting fits.
    behind_such (setting_words words) _ (λ settings. AllByRecursion SaysWithin settings) (λ settings. AllByRecursion SaysWithin settings) (words_fit words) (λ settings rest.
    (fits, rest)))

none_yet : (role : Role) → (0 ≤ most_addresses role) × (0 ≤ most_ports role)
none_yet Host = (omega arith, omega arith)
none_yet Router = (omega arith, omega arith)

no_routes_yet : (role : Role) → HasItsRoutes role []
no_routes_yet Host = refl
no_routes_yet Router = omega arith

pub system_fit : (d : Declarations) (words : List (List ℕ)) → AreFit d → IfOk (system_line d words) AreFit
unfolding system_line
system_fit d words h =
    behind_found (first_two words) _ _ AreFit (λ w _.
    behind_such (name_word w.0) _ IsNamed AreFit (name_is w.0) (λ name is_named.
    behind_result (role_word w.1) _ AreFit (λ role _.
    behind_such (setting_words w.2) _ (λ settings. AllByRecursion SaysWithin settings) AreFit (words_fit w.2) (λ settings fits.
    behind_wanted (not (is_taken (system_names d) name) && each_once key_of settings) _ _ AreFit (λ once.
    behind_wanted (nat_lt (length d.systems) 64) _ _ AreFit (λ few.
    let system : DeclaredSystem = record { name = name; role = role; settings = settings_of settings; addresses = []; ports = []; routes = [] } in
    record {
      limits = h.limits;
      together = h.together;
      subnets = h.subnets;
      named = h.named;
      systems = AllByRecursion-push IsDeclared d.systems system h.systems (record {
        addresses = (none_yet role).0;
        few_ports = (none_yet role).1;
        ports = tt;
        different = tt;
        routes = no_routes_yet role;
        distinct_routes = tt;
        each_route = tt;
        settings = settings_fit settings fits;
        named = is_named;
      });
      addresses = rw (system_leaves d.systems system refl) h.addresses;
      subnet_names = h.subnet_names;
      system_names = rw (map-append (λ (system : DeclaredSystem). system.name) d.systems (system ∷ []))
          (one_more_name (system_names d) name
          (not-true (is_taken (system_names d) name) (and_parts (not (is_taken (system_names d) name)) (each_once key_of settings) once).0) h.system_names);
      few_subnets = h.few_subnets;
      few_systems = rw length-append (omega (arith, ltb-true (length d.systems) 64 few));
      snpas = λ q. rw (empty_leaves (snpas_on q) d.systems system refl) (h.snpas q);
      on = AllByRecursion-push (λ (system : DeclaredSystem). AreOn d.subnets system.ports) d.systems system h.on tt;
    }))))))

address_room : (o : Option DeclaredSystem) (system : DeclaredSystem) → o ≡ Some system → takes_address o ≡ true
    → length system.addresses < most_addresses system.role
address_room o system e h = ltb-true (length system.addresses) (most_addresses system.role) (rw e at h)

port_room : (o : Option DeclaredSystem) (system : DeclaredSystem) → o ≡ Some system → takes_port o ≡ true
    → length system.ports < most_ports system.role
port_room o system e h = ltb-true (length system.ports) (most_ports system.role) (rw e at h)

pub address_fit : (d : Declarations) (words : List (List ℕ)) → AreFit d → IfOk (address_line d words) AreFit
unfolding address_line
address_fit d words h =
    behind_found (two_words words) _ _ AreFit (λ w _.
    behind_result (declared_word (system_names d) w.0) _ AreFit (λ place _.
    behind_result (address_word w.1) _ AreFit (λ address _.
    behind_wanted (not (is_among address (addresses_of d.systems))) _ _ AreFit (λ new.
    behind_wanted (takes_address (slice_get d.systems place)) _ _ AreFit (λ room.
    record {
      limits = h.limits;
      together = h.together;
      subnets = h.subnets;
      named = h.named;
      systems = changed IsDeclared (with_address address) place d.systems h.systems (λ system is fits. record {
        addresses = rw length-append (omega (arith, address_room (slice_get d.systems place) system is room));
        few_ports = fits.few_ports;
        ports = fits.ports;
        different = fits.different;
        routes = fits.routes;
        distinct_routes = fits.distinct_routes;
        each_route = fits.each_route;
        settings = fits.settings;
        named = fits.named;
      });
      addresses = add_address address place d.systems (not-true (is_among address (addresses_of d.systems)) new) h.addresses;
      subnet_names = h.subnet_names;
      system_names = rw (map_leaves (λ (system : DeclaredSystem). system.name) (with_address address) (λ system. refl) place d.systems) h.system_names;
      few_subnets = h.few_subnets;
      few_systems = rw (length_leaves (with_address address) place d.systems) h.few_systems;
      snpas = λ q. rw (all_leaves (snpas_on q) (with_address address) (λ system. refl) place d.systems) (h.snpas q);
      on = changed (λ (system : DeclaredSystem). AreOn d.subnets system.ports) (with_address address) place d.systems h.on (λ system _ there. there);
    })))))

mtu_fit : (subnets : List Subnetwork) (place : ℕ) → AllByRecursion (λ (subnet : Subnetwork). IsWithin 512 65535 subnet.mtu) subnets
    → place < length subnets → IsWithin 512 65535 (mtu_at (slice_get subnets place))
mtu_fit [] place h within = absurd (omega (arith, within))
mtu_fit (subnet ∷ subnets) zero h within = h.0
mtu_fit (subnet ∷ subnets) (suc place) h within = mtu_fit subnets place h.1 (omega (arith, within))

transit_fit : (words : List (List ℕ)) → IfOk (transit_word words) (IsWithin 1 255)
transit_fit [] = record { least = omega arith; most = omega arith }
transit_fit (word ∷ words) = number_is_within 1 255 word

snpas_fit : (numbered : NumberedPort) (place : ℕ) (systems : List DeclaredSystem) (q : ℕ) (b : Bool) → (numbered.port.subnet == q) ≡ b
    → is_among numbered.port.snpa (flat_map (snpas_on numbered.port.subnet) systems) ≡ false → AreApart (flat_map (snpas_on q) systems)
    → AreApart (flat_map (snpas_on q) (changed_at (with_port numbered) place systems))
snpas_fit numbered place systems q true e new h =
    let here : is_among numbered.port.snpa (flat_map (snpas_on q) systems) ≡ false
    = subst (λ s. is_among numbered.port.snpa (flat_map (snpas_on s) systems) ≡ false) (eqb-true numbered.port.subnet q e) new in
    one_gets (snpas_on q) (with_port numbered) numbered.port.snpa (λ system. port_gets numbered q system e) [] place systems
    (new_of numbered.port.snpa (flat_map (snpas_on q) systems) here) h
snpas_fit numbered place systems q false e new h =
    rw (all_leaves (snpas_on q) (with_port numbered) (λ system. port_elsewhere numbered q system e) place systems) h

one_port_more : (numbered : NumberedPort) (system : DeclaredSystem) → length system.ports < most_ports system.role
    → length (with_port numbered system).ports ≤ most_ports system.role
one_port_more numbered system room =
    rw (length-insert system.ports (count_below numbered.number system.ports) numbered
    (count_by-le-length (λ (other : NumberedPort). nat_lt other.number numbered.number) system.ports)) (omega (arith, room))

no_such_port : (o : Option DeclaredSystem) (system : DeclaredSystem) (number subnet : ℕ) → o ≡ Some system → has_port number subnet o ≡ false
    → list_any (λ (other : NumberedPort). (other.number == number) || (other.port.subnet == subnet)) system.ports ≡ false
no_such_port o system number subnet e h = rw e at h

pub port_fit : (d : Declarations) (words : List (List ℕ)) → AreFit d → IfOk (port_line d words) AreFit
unfolding port_line
port_fit d words h =
    behind_found (first_four words) _ _ AreFit (λ w _.
    behind_wanted (is_one_at_most w.4) _ _ AreFit (λ _.
    behind_result (declared_word (system_names d) w.0) _ AreFit (λ place _.
    behind_result (number_word 0 7 w.1) _ AreFit (λ number _.
    behind_such (declared_word (subnet_names d) w.2) _ (λ subnet. subnet < length (subnet_names d)) AreFit (declared_is_within (subnet_names d) w.2) (λ subnet within.
    behind_result (address_word w.3) _ AreFit (λ snpa _.
    behind_such (transit_word w.4) _ (IsWithin 1 255) AreFit (transit_fit w.4) (λ transit transit_in.
    behind_wanted (not (has_port number subnet (slice_get d.systems place))) _ _ AreFit (λ elsewhere.
    behind_wanted (not (is_among snpa (flat_map (snpas_on subnet) d.systems))) _ _ AreFit (λ new.
    behind_wanted (takes_port (slice_get d.systems place)) _ _ AreFit (λ room.
    let numbered : NumberedPort = record { number = number; port = record { subnet = subnet; snpa = snpa; transit = transit; mtu = mtu_at (slice_get d.subnets subnet) } } in
    let there : subnet < length d.subnets = rw (length-map d.subnets (λ (subnet : Subnetwork). subnet.name)) at within in
    record {
      limits = h.limits;
      together = h.together;
      subnets = h.subnets;
      named = h.named;
      systems = changed IsDeclared (with_port numbered) place d.systems h.systems (λ system is fits. record {
        addresses = fits.addresses;
        few_ports = one_port_more numbered system (port_room (slice_get d.systems place) system is room);
        ports = all_among (λ (numbered : NumberedPort). IsPort numbered.port) numbered (count_below number system.ports) system.ports
            (record { transit = transit_in; mtu = mtu_fit d.subnets subnet h.subnets there }) fits.ports;
        different = on_one_more numbered (count_below number system.ports) system.ports
            (no_such_port (slice_get d.systems place) system number subnet is (not-true (has_port number subnet (slice_get d.systems place)) elsewhere)) fits.different;
        routes = fits.routes;
        distinct_routes = fits.distinct_routes;
        each_route = lead_on numbered (count_below number system.ports) system.ports system.routes fits.each_route;
        settings = fits.settings;
        named = fits.named;
      });
      addresses = rw (port_leaves numbered place d.systems) h.addresses;
      subnet_names = h.subnet_names;
      system_names = rw (map_leaves (λ (system : DeclaredSystem). system.name) (with_port numbered) (λ system. refl) place d.systems) h.system_names;
      few_subnets = h.few_subnets;
      few_systems = rw (length_leaves (with_port numbered) place d.systems) h.few_systems;
      snpas = λ q. snpas_fit numbered place d.systems q (subnet == q) refl (not-true (is_among snpa (flat_map (snpas_on subnet) d.systems)) new) (h.snpas q);
      on = changed (λ (system : DeclaredSystem). AreOn d.subnets system.ports) (with_port numbered) place d.systems h.on
          (λ system _ on. all_among (λ (numbered : NumberedPort). IsOn d.subnets numbered.port) numbered (count_below number system.ports) system.ports
          (mtu_is d.subnets subnet there) on);
    }))))))))))

-- what a route line finds

is_the_router : (o : Option DeclaredSystem) (system : DeclaredSystem) → o ≡ Some system → is_router_at o ≡ true → is_router system.role ≡ true
is_the_router o system e h = rw e at h

router_is_router : (d : Declarations) (word : List ℕ) → IfOk (router_word d word) (λ place. is_router_at (slice_get d.systems place) ≡ true)
router_is_router d word =
    behind_result (declared_word (system_names d) word) _ (λ place. is_router_at (slice_get d.systems place) ≡ true) (λ place _.
    behind_wanted (is_router_at (slice_get d.systems place)) bad.UnknownName (λ _. Ok place) (λ place. is_router_at (slice_get d.systems place) ≡ true) (λ is. is))

port_is_there : (o : Option DeclaredSystem) (word : List ℕ) → IfOk (port_word o word) (λ number. has_numbered number o ≡ true)
port_is_there o word =
    behind_result (number_word 0 7 word) _ (λ number. has_numbered number o ≡ true) (λ number _.
    behind_wanted (has_numbered number o) bad.UnknownName (λ _. Ok number) (λ number. has_numbered number o ≡ true) (λ there. there))

its_port : (o : Option DeclaredSystem) (system : DeclaredSystem) (number : ℕ) → o ≡ Some system → has_numbered number o ≡ true
    → has_number system.ports number ≡ true
its_port o system number e h = rw e at h

its_prefix : (o : Option DeclaredSystem) (system : DeclaredSystem) (prefix : List ℕ) → o ≡ Some system → has_route prefix o ≡ false
    → list_any (prefixes.has_prefix prefix) system.routes ≡ false
its_prefix o system prefix e h = rw e at h

route_room : (o : Option DeclaredSystem) (system : DeclaredSystem) → o ≡ Some system → takes_route o ≡ true → length system.routes < 256
route_room o system e h = ltb-true (length system.routes) 256 (rw e at h)

one_route_more : (role : Role) (routes : List Route) (route : Route) → is_router role ≡ true → length routes < 256 → HasItsRoutes role (routes ++ route ∷ [])
one_route_more Host routes route is room = absurd (true≢false (sym is))
one_route_more Router routes route is room = rw length-append (omega (arith, room))

route_fits : (route : Route) (o : Option DeclaredSystem) → is_router_at o ≡ true → has_numbered route.port o ≡ true → has_route route.prefix o ≡ false
    → takes_route o ≡ true → (system : DeclaredSystem) → o ≡ Some system → IsDeclared system → IsDeclared (with_route route system)
route_fits route o is there other room system e fits =
    record {
      addresses = fits.addresses;
      few_ports = fits.few_ports;
      ports = fits.ports;
      different = fits.different;
      routes = one_route_more system.role system.routes route (is_the_router o system e is) (route_room o system e room);
      distinct_routes = AreDistinct-push system.routes route fits.distinct_routes (its_prefix o system route.prefix e other);
      each_route = AllByRecursion-push (λ (route : Route). has_number system.ports route.port ≡ true) system.routes route fits.each_route
          (its_port o system route.port e there);
      settings = fits.settings;
      named = fits.named;
    }

pub route_fit : (d : Declarations) (words : List (List ℕ)) → AreFit d → IfOk (route_line d words) AreFit
unfolding route_line
route_fit d words h =
    behind_found (five_words words) _ _ AreFit (λ w _.
    behind_such (router_word d w.0) _ (λ place. is_router_at (slice_get d.systems place) ≡ true) AreFit (router_is_router d w.0) (λ place is.
    behind_result (prefix_word w.1) _ AreFit (λ prefix _.
    behind_such (port_word (slice_get d.systems place) w.2) _ (λ number. has_numbered number (slice_get d.systems place) ≡ true) AreFit
    (port_is_there (slice_get d.systems place) w.2) (λ port there.
    behind_result (address_word w.3) _ AreFit (λ snpa _.
    behind_result (address_word w.4) _ AreFit (λ title _.
    behind_wanted (not (has_route prefix (slice_get d.systems place))) _ _ AreFit (λ other.
    behind_wanted (takes_route (slice_get d.systems place)) _ _ AreFit (λ room.
    let route : Route = record { prefix = prefix; port = port; snpa = snpa; title = title } in
    record {
      limits = h.limits;
      together = h.together;
      subnets = h.subnets;
      named = h.named;
      systems = changed IsDeclared (with_route route) place d.systems h.systems
          (route_fits route (slice_get d.systems place) is there (not-true (has_route prefix (slice_get d.systems place)) other) room);
      addresses = rw (all_leaves (λ (system : DeclaredSystem). system.addresses) (with_route route) (λ system. refl) place d.systems) h.addresses;
      subnet_names = h.subnet_names;
      system_names = rw (map_leaves (λ (system : DeclaredSystem). system.name) (with_route route) (λ system. refl) place d.systems) h.system_names;
      few_subnets = h.few_subnets;
      few_systems = rw (length_leaves (with_route route) place d.systems) h.few_systems;
      snpas = λ q. rw (all_leaves (snpas_on q) (with_route route) (λ system. refl) place d.systems) (h.snpas q);
      on = changed (λ (system : DeclaredSystem). AreOn d.subnets system.ports) (with_route route) place d.systems h.on (λ system _ there. there);
    }))))))))

line_fit : (d : Declarations) (words : List (List ℕ)) → AreFit d → IfOk (declaration_line d words) AreFit
unfolding declaration_line
line_fit d [] h = tt
line_fit d (keyword ∷ words) h =
    either_way (bytes_eq keyword (codes "limits")) _ _ AreFit (limits_fit d words h)
    (either_way (bytes_eq keyword (codes "subnet")) _ _ AreFit (subnet_fit d words h)
    (either_way (bytes_eq keyword (codes "system")) _ _ AreFit (system_fit d words h)
    (either_way (bytes_eq keyword (codes "address")) _ _ AreFit (address_fit d words h)
    (either_way (bytes_eq keyword (codes "port")) _ _ AreFit (port_fit d words h)
    (either_way (bytes_eq keyword (codes "route")) _ _ AreFit (route_fit d words h) tt)))))

all_complete : (d : Declarations) → IfOk (all_declared d) (λ _. list_all is_complete d.systems ≡ true)
all_complete d =
    let complete = list_all is_complete d.systems ≡ true in
    behind_wanted (has_limits d) bad.Syntax (λ _. wanted (list_all is_complete d.systems) bad.Count) (λ _. complete) (λ _.
    if_wanted (list_all is_complete d.systems) bad.Count complete (λ is. is))

-- what is declared up to `events` is fit, and each system is complete
pub record AreDeclared (r : ReadTo Declarations) : Type 0 where
  pub fit : AreFit r.value
  pub complete : list_all is_complete r.value.systems ≡ true

pub declarations_fit : (n : ℕ) (d : Declarations) (lines : List (List ℕ)) → AreFit d → IfOk (declarations_from n d lines) AreDeclared
declarations_fit n d [] h = tt
declarations_fit n d (line ∷ lines) h =
    either_way (is_skipped line) _ _ AreDeclared (declarations_fit (n + 1) d lines h)
    (either_way (is_line_of (codes "events") (words_of line)) _ _ AreDeclared
    (behind_line_such n (all_declared d) _ (λ _. list_all is_complete d.systems ≡ true) AreDeclared (all_complete d) (λ _ complete. record { fit = h; complete = complete }))
    (behind_line_such n (declaration_line d (words_of line)) _ AreFit AreDeclared (line_fit d (words_of line) h) (λ declared fits.
    declarations_fit (n + 1) declared lines fits)))

pub nothing_fit : (version : ℕ) → AreFit (nothing_declared version)
nothing_fit version =
    record {
      limits = record {
        age = is_within 1 4096 256 (omega arith) (omega arith);
        hold = is_within 1 255 60 (omega arith) (omega arith);
        reuse = is_within 1 16384 320 (omega arith) (omega arith);
        skew = is_within 0 4096 0 (omega arith) (omega arith);
        rests = omega arith;
      };
      together = λ _. refl;
      subnets = tt;
      named = tt;
      systems = tt;
      addresses = tt;
      subnet_names = tt;
      system_names = tt;
      few_subnets = omega arith;
      few_systems = omega arith;
      snpas = λ q. tt;
      on = tt;
    }

its_addresses : (role : Role) (addresses : List (List ℕ)) → 1 ≤ length addresses → length addresses ≤ most_addresses role → HasItsAddresses role addresses
its_addresses Host addresses least most = record { least = least; most = most }
its_addresses Router addresses least most = omega (arith, least, most)

its_ports : (role : Role) (ports : List PortConfig) → 1 ≤ length ports → length ports ≤ most_ports role → HasItsPorts role ports
its_ports Host ports least most = omega (arith, least, most)
its_ports Router ports least most = record { least = least; most = most }

ports_fit : (ports : List NumberedPort) → AllByRecursion (λ (numbered : NumberedPort). IsPort numbered.port) ports
    → AllByRecursion IsPort (map (λ (numbered : NumberedPort). numbered.port) ports)
ports_fit [] h = tt
ports_fit (numbered ∷ others) h = (h.0, ports_fit others h.1)

-- complete systems as they are declared
pub systems_fit : (systems : List DeclaredSystem) → AllByRecursion IsDeclared systems → AreApart (addresses_of systems)
    → list_all is_complete systems ≡ true → AllByRecursion IsSystem (map configuration_of systems)
systems_fit [] h apart complete = tt
systems_fit (system ∷ systems) h apart complete =
    let both = and_parts (is_complete system) (list_all is_complete systems) complete in
    let own = and_parts (nat_le 1 (length system.addresses)) (nat_le 1 (length system.ports) && have_no_gap system.ports) both.0 in
    let port = and_parts (nat_le 1 (length system.ports)) (have_no_gap system.ports) own.1 in
    let same = length-map system.ports (λ (numbered : NumberedPort). numbered.port) in (
      record {
        addresses = its_addresses system.role system.addresses (leb-true 1 (length system.addresses) own.0) h.0.addresses;
        distinct = distinct_of system.addresses (front_apart system.addresses (addresses_of systems) apart);
        ports = its_ports system.role (map (λ (numbered : NumberedPort). numbered.port) system.ports)
            (rw same (leb-true 1 (length system.ports) port.0)) (rw same h.0.few_ports);
        each_port = ports_fit system.ports h.0.ports;
        routes = h.0.routes;
        distinct_routes = h.0.distinct_routes;
        each_route = lead_below system.ports system.routes port.1 h.0.each_route;
        settings = h.0.settings;
      },
      systems_fit systems h.1 (back_apart system.addresses (addresses_of systems) apart) both.1,
    )

-- the declared systems are what each system is
pub configurations_fit : (r : ReadTo Declarations) → AreDeclared r → AllByRecursion IsSystem (map configuration_of r.value.systems)
configurations_fit r h = systems_fit r.value.systems h.fit.systems h.fit.addresses h.complete

-- each of their names is a name, and no two ports of one of them are on one subnetwork
pub configurations_named : (systems : List DeclaredSystem) → AllByRecursion IsDeclared systems
    → AllByRecursion (λ (system : SystemConfiguration). is_name system.name ≡ true) (map configuration_of systems)
configurations_named systems =
    AllByRecursion-mapped IsDeclared (λ (system : SystemConfiguration). is_name system.name ≡ true) configuration_of systems (λ system fits. fits.named)

pub configurations_apart : (systems : List DeclaredSystem) → AllByRecursion IsDeclared systems
    → AllByRecursion (λ (system : SystemConfiguration). AreOnDifferent system.ports) (map configuration_of systems)
configurations_apart systems =
    AllByRecursion-mapped IsDeclared (λ (system : SystemConfiguration). AreOnDifferent system.ports) configuration_of systems
    (λ system fits. configurations_different system.ports fits.different)
