-- What holds of each event that changes the network holds of the one that a line gives, where all is so that the line asks.
use Rattle.std.proofs.Common.{◌≡◌, ◌≢◌, inl, inr, ℕ, ◌<◌, ◌==◌, ◌||◌, not, true, false, if◌then◌else◌, List, length, slice_get, codes, Option, Result, Ok, Err, IfOk, sym, ◌∙◌}
use Rattle.std.specs.List.{list_any}
use Rattle.std.specs.Str.{bytes_eq}
use Rattle.std.proofs.lemmas.Bool.{cases_Bool, eq-eqb, not-true, or_parts, true≢false}
use Rattle.clnp_plan.specs.ClnpBase.Text.{decimal_of}
use Rattle.clnp_plan.specs.Configuration.{IsWithin, SystemConfiguration}
use Rattle.clnp_plan.specs.SystemTables.declared.forwarding.route.Route.{Route}
use Rattle.scenario.specs.Events.{Scene, is_router_at, router_word, has_number, port_word, mtu_line, route_line, unroute_line, port_line, change_line, tick_line, tick_system_line, ticks_line}
use Rattle.clnp_plan.specs.ScenarioPlan.Standing.{is_rival, is_second, runs_ahead, takes_prefix}
use Rattle.scenario.specs.Words.{declared_word, number_word, is_digits, address_word, prefix_word, one_word, two_words, four_words, five_words, is_one_at_most}
use Rattle.scenario.specs.declared.code.Code.{Code}
use Rattle.scenario.specs.declared.code.Code.TheVariants as bad
use Rattle.clnp_plan.specs.declared.scenario_plan.event.Event.{Event}
use Rattle.clnp_plan.specs.declared.scenario_plan.event.Event.TheVariants as event
use Rattle.scenario.proofs.Behind.{behind_result, behind_found, behind_wanted, behind_such, either_way, declared_is_within, found_is_within, number_is_within}

-- some word is read as this
abbrev pub IsRead : (List ℕ → Result (List ℕ) Code) → List ℕ → Type 0
IsRead read value = (word : List ℕ) × (read word ≡ Ok value)

pub record IsMtuRead (scene : Scene) (subnet mtu : ℕ) : Type 0 where
  pub later : scene.version ≢ 1
  pub placed : subnet < length scene.subnets
  pub within : IsWithin 512 65535 mtu

-- the system that a line names is a router
pub record IsRouterRead (scene : Scene) (system : ℕ) : Type 0 where
  pub placed : system < length scene.names
  pub is : is_router_at (slice_get scene.systems system) ≡ true

-- the number of a port that a system has
pub record IsNumberRead (system : Option SystemConfiguration) (number : ℕ) : Type 0 where
  pub within : IsWithin 0 7 number
  pub there : has_number number system ≡ true

pub record IsRouteRead (scene : Scene) (system : ℕ) (route : Route) : Type 0 where
  pub later : scene.version ≢ 1
  pub router : IsRouterRead scene system
  pub prefix : IsRead prefix_word route.prefix
  pub number : IsNumberRead (slice_get scene.systems system) route.port
  pub snpa : IsRead address_word route.snpa
  pub title : IsRead address_word route.title
  pub room : takes_prefix route.prefix (slice_get scene.standing.prefixes system) ≡ true

pub record IsUnrouteRead (scene : Scene) (system : ℕ) (prefix : List ℕ) : Type 0 where
  pub later : scene.version ≢ 1
  pub router : IsRouterRead scene system
  pub read : IsRead prefix_word prefix

pub record IsPortRead (scene : Scene) (system number subnet : ℕ) (snpa : List ℕ) : Type 0 where
  pub later : scene.version ≢ 1
  pub placed : system < length scene.names
  pub own : IsNumberRead (slice_get scene.systems system) number
  pub on : subnet < length scene.subnets
  pub read : IsRead address_word snpa
  pub second : list_any (is_second system number subnet) scene.standing.spots ≡ false
  pub rival : list_any (is_rival system number subnet snpa) scene.standing.spots ≡ false

-- ticks of one system alone
pub record IsTickRead (scene : Scene) (system count : ℕ) : Type 0 where
  pub later : scene.version ≢ 1
  pub placed : system < length scene.names
  pub within : IsWithin 1 65535 count
  pub behind : runs_ahead system count scene.standing ≡ false

router_read : (scene : Scene) (word : List ℕ) → IfOk (router_word scene.names scene.systems word) (IsRouterRead scene)
router_read scene word =
    behind_such (declared_word scene.names word) _ (λ place. place < length scene.names) (IsRouterRead scene) (declared_is_within scene.names word) (λ place within.
    behind_wanted (is_router_at (slice_get scene.systems place)) bad.UnknownName (λ _. Ok place) (IsRouterRead scene) (λ is. record { placed = within; is = is }))

number_read : (system : Option SystemConfiguration) (word : List ℕ) → IfOk (port_word system word) (IsNumberRead system)
number_read system word =
    behind_such (number_word 0 7 word) _ (IsWithin 0 7) (IsNumberRead system) (number_is_within 0 7 word) (λ number within.
    behind_wanted (has_number number system) bad.UnknownName (λ _. Ok number) (IsNumberRead system) (λ is. record { within = within; there = is }))

module _ (scene : Scene) (words : List (List ℕ)) (P : Event → Type 0) (later : scene.version ≢ 1) where
  pub mtu_such : ((subnet mtu : ℕ) → IsMtuRead scene subnet mtu → P (event.Mtu subnet mtu)) → IfOk (mtu_line scene.subnets words) P
  unfolding mtu_line
  mtu_such h =
      behind_found (two_words words) _ _ P (λ w _.
      behind_such (declared_word scene.subnets w.0) _ (λ place. place < length scene.subnets) P (declared_is_within scene.subnets w.0) (λ subnet placed.
      behind_wanted (is_digits w.1) _ _ P (λ _.
      behind_such _ _ (IsWithin 512 65535) P (found_is_within 512 65535 (decimal_of w.1) bad.Mtu) (λ mtu within.
      h subnet mtu (record { later = later; placed = placed; within = within })))))

  pub route_such : ((system : ℕ) (route : Route) → IsRouteRead scene system route → P (event.Route system route)) → IfOk (route_line scene words) P
  unfolding route_line
  route_such h =
      behind_found (five_words words) _ _ P (λ w _.
      behind_such (router_word scene.names scene.systems w.0) _ (IsRouterRead scene) P (router_read scene w.0) (λ system router.
      behind_result (prefix_word w.1) _ P (λ prefix is_prefix.
      behind_such (port_word (slice_get scene.systems system) w.2) _ (IsNumberRead (slice_get scene.systems system)) P
      (number_read (slice_get scene.systems system) w.2) (λ port number.
      behind_result (address_word w.3) _ P (λ snpa is_snpa.
      behind_result (address_word w.4) _ P (λ title is_title.
      behind_wanted (takes_prefix prefix (slice_get scene.standing.prefixes system)) _ _ P (λ room.
      h system (record { prefix = prefix; port = port; snpa = snpa; title = title })
      (record { later = later; router = router; prefix = (w.1, is_prefix); number = number; snpa = (w.3, is_snpa); title = (w.4, is_title); room = room }))))))))

  pub unroute_such : ((system : ℕ) (prefix : List ℕ) → IsUnrouteRead scene system prefix → P (event.Unroute system prefix)) → IfOk (unroute_line scene words) P
  unfolding unroute_line
  unroute_such h =
      behind_found (two_words words) _ _ P (λ w _.
      behind_such (router_word scene.names scene.systems w.0) _ (IsRouterRead scene) P (router_read scene w.0) (λ system router.
      behind_result (prefix_word w.1) _ P (λ prefix is.
      h system prefix (record { later = later; router = router; read = (w.1, is) }))))

  pub port_such : ((system number subnet : ℕ) (snpa : List ℕ) → IsPortRead scene system number subnet snpa → P (event.Port system number subnet snpa))
      → IfOk (port_line scene words) P
  unfolding port_line
  port_such h =
      behind_found (four_words words) _ _ P (λ w _.
      behind_such (declared_word scene.names w.0) _ (λ place. place < length scene.names) P (declared_is_within scene.names w.0) (λ system placed.
      behind_such (port_word (slice_get scene.systems system) w.1) _ (IsNumberRead (slice_get scene.systems system)) P
      (number_read (slice_get scene.systems system) w.1) (λ number own.
      behind_such (declared_word scene.subnets w.2) _ (λ place. place < length scene.subnets) P (declared_is_within scene.subnets w.2) (λ subnet on.
      behind_result (address_word w.3) _ P (λ snpa is.
      behind_wanted (not (list_any (is_second system number subnet) scene.standing.spots)) _ _ P (λ second.
      behind_wanted (not (list_any (is_rival system number subnet snpa) scene.standing.spots)) _ _ P (λ rival.
      h system number subnet snpa
      (record {
        later = later;
        placed = placed;
        own = own;
        on = on;
        read = (w.3, is);
        second = not-true (list_any (is_second system number subnet) scene.standing.spots) second;
        rival = not-true (list_any (is_rival system number subnet snpa) scene.standing.spots) rival;
      }))))))))

tick_within : (words : List (List ℕ)) → IfOk (tick_line words) (IsWithin 1 65535)
unfolding tick_line
tick_within words = behind_found (one_word words) _ _ (IsWithin 1 65535) (λ word _. number_is_within 1 65535 word)

pub tick_system_such : (scene : Scene) (words : List (List ℕ)) (P : Event → Type 0) → scene.version ≢ 1
    → ((system count : ℕ) → IsTickRead scene system count → P (event.TickSystem system count)) → IfOk (tick_system_line scene words) P
unfolding tick_system_line
tick_system_such scene words P later h =
    behind_found (two_words words) _ _ P (λ w _.
    behind_such (declared_word scene.names w.0) _ (λ place. place < length scene.names) P (declared_is_within scene.names w.0) (λ system placed.
    behind_such (number_word 1 65535 w.1) _ (IsWithin 1 65535) P (number_is_within 1 65535 w.1) (λ count within.
    behind_wanted (not (runs_ahead system count scene.standing)) _ _ P (λ behind.
    h system count (record { later = later; placed = placed; within = within; behind = not-true (runs_ahead system count scene.standing) behind })))))

pub later_of : (version : ℕ) → (version == 1) ≡ false → version ≢ 1
later_of version other one = true≢false (sym (eq-eqb version 1 one) ∙ other)

-- in version 1 such a line gives nothing
pub change_such : (scene : Scene) (keyword : List ℕ) (words : List (List ℕ)) (P : Event → Type 0)
    → ((subnet mtu : ℕ) → IsMtuRead scene subnet mtu → P (event.Mtu subnet mtu))
    → ((system : ℕ) (route : Route) → IsRouteRead scene system route → P (event.Route system route))
    → ((system : ℕ) (prefix : List ℕ) → IsUnrouteRead scene system prefix → P (event.Unroute system prefix))
    → ((system number subnet : ℕ) (snpa : List ℕ) → IsPortRead scene system number subnet snpa → P (event.Port system number subnet snpa))
    → IfOk (if scene.version == 1 then Err bad.Syntax else change_line scene keyword words) P
unfolding change_line
change_such scene keyword words P mtu route unroute port =
    elim (cases_Bool (scene.version == 1)) [
      | inl first ↦ rw first tt
      | inr other ↦
          let later : scene.version ≢ 1 = later_of scene.version other in
          rw other
          (either_way (bytes_eq keyword (codes "mtu")) _ _ P (mtu_such scene words P later mtu)
          (either_way (bytes_eq keyword (codes "route")) _ _ P (route_such scene words P later route)
          (either_way (bytes_eq keyword (codes "unroute")) _ _ P (unroute_such scene words P later unroute)
          (either_way (bytes_eq keyword (codes "port")) _ _ P (port_such scene words P later port) tt))))
    ]

-- all systems tick, or one alone
pub ticks_such : (scene : Scene) (words : List (List ℕ)) (P : Event → Type 0) → ((count : ℕ) → IsWithin 1 65535 count → P (event.Tick count))
    → ((system count : ℕ) → IsTickRead scene system count → P (event.TickSystem system count)) → IfOk (ticks_line scene words) P
unfolding ticks_line
ticks_such scene words P all alone =
    elim (cases_Bool ((scene.version == 1) || is_one_at_most words)) [
      | inl first ↦ rw first (behind_such (tick_line words) (λ count. Ok (event.Tick count)) (IsWithin 1 65535) P (tick_within words) all)
      | inr other ↦
          let neither = or_parts (scene.version == 1) (is_one_at_most words) other in
          rw other (tick_system_such scene words P (later_of scene.version neither.0) alone)
    ]
