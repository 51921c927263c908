-- What is given out for the units that a system makes.
use Rattle.std.proofs.Common.{◌≡◌, ◌∙◌, refl, sym, ap, subst, inl, inr, ℕ, ◌≤◌, List, ◌∷◌, append-nil, Option, None, Some}
use Rattle.std.specs.Prelude.{if◌then◌else◌, option_map, slice_get}
use Rattle.std.specs.List.{AllByRecursion}
use Rattle.std.specs.Option.{option_or}
use Rattle.std.proofs.lemmas.Option.{same_Some}
use Rattle.clnp_plan.proofs.ClnpBase.Lists.{AllByRecursion-implies, AllByRecursion-slice_get}
use Rattle.clnp_plan.specs.Pdus.declared.pdu_header.kind.Kind.{Kind}
use Rattle.clnp_plan.specs.Configuration.{IsPort, SystemConfiguration}
use Rattle.clnp_plan.specs.EsisTables.Fact.{Fact}
use Rattle.clnp_plan.specs.EsisTables.NextHop as heard
use Rattle.clnp_plan.specs.SystemTables.declared.esis_tables.fact.TableKind.TheVariants.{Es}
use Rattle.clnp_plan.specs.Forwarding.Longest.{longest}
use Rattle.clnp_plan.specs.declared.config.Role.{Role}
use Rattle.clnp_plan.specs.declared.config.Role.TheVariants.{Host, Router}
use Rattle.clnp_machine.specs.Attachment.{Attachment}
use Rattle.clnp_plan.specs.declared.ask.Ask.{Ask}
use Rattle.clnp_plan.specs.declared.config.PortConfig.{PortConfig}
use Rattle.system_tables.specs.Reassembly.Buffer.{Buffer}
use Rattle.clnp_machine.specs.Unit.{DataUnit, Packet, cut, whole_packet}
use Rattle.clnp_machine.specs.System.{SystemState, Output, Notes}
use Rattle.clnp_machine.specs.Local.{has_address, header_size, make, makes, refusal, sent_note, unit_of, unless_refused}
use Rattle.clnp_machine.specs.Step.{Hop, by_route, effect_of, first_sent, hop_by, hop_of, host_hop, is_to_itself, sent_on, to_neighbour, transmissions, unit_hop}
use Rattle.clnp_machine.specs.Whereabouts.{IsFirstSent, IsSentOrDropped, MakesOrRefuses}
use Rattle.clnp_machine.proofs.AllOf.{cut_is_all}
use Rattle.clnp_machine.proofs.Making.{allowed}
use Rattle.clnp_machine.proofs.Noted.{refusal_such}
use Rattle.clnp_machine.proofs.Sent.{IsPartOf, cut_is_parts}

-- Where a unit goes by what is configured, heard of and attached at a moment.

-- where a router sends
abbrev router_hop : SystemConfiguration → (now : ℕ) → List Fact → Attachment → (to : List ℕ) → Option Hop
router_hop configuration now facts attached to =
    if has_address configuration to then None
    else option_map hop_by
    (option_or (option_map to_neighbour (heard.current_neighbour now Es to facts)) (option_map by_route (longest to attached.routes)))

-- what is so of two states that don't differ in these
pub record AreAlike (s t : SystemState) : Type 0 where
  pub configuration : t.configuration ≡ s.configuration
  pub moment : t.moment ≡ s.moment
  pub facts : t.facts ≡ s.facts
  pub attached : t.attached ≡ s.attached

module _ (s t : SystemState) (are : AreAlike s t) (u : DataUnit) where
  hop_by_role : (role : Role)
      → (if is_to_itself role t u then None else hop_of role t u.destination) ≡ (if is_to_itself role s u then None else hop_of role s u.destination)
  hop_by_role Host =
      ap (λ (now : ℕ). Some (host_hop (heard.next_hop now u.destination t.facts))) are.moment
      ∙ ap (λ (facts : List Fact). Some (host_hop (heard.next_hop s.moment u.destination facts))) are.facts
  hop_by_role Router =
      ap (λ (c : SystemConfiguration). router_hop c t.moment t.facts t.attached u.destination) are.configuration
      ∙ ap (λ (now : ℕ). router_hop s.configuration now t.facts t.attached u.destination) are.moment
      ∙ ap (λ (facts : List Fact). router_hop s.configuration s.moment facts t.attached u.destination) are.facts
      ∙ ap (λ (attached : Attachment). router_hop s.configuration s.moment s.facts attached u.destination) are.attached

  same_hop : unit_hop t u ≡ unit_hop s u
  same_hop =
      ap (λ (c : SystemConfiguration). if is_to_itself c.role t u then None else hop_of c.role t u.destination) are.configuration
      ∙ hop_by_role s.configuration.role

  pub sent_alike : first_sent t u (unit_hop t u) ≡ first_sent s u (unit_hop s u)
  sent_alike = ap (first_sent t u) same_hop ∙ go (unit_hop s u)
    where
      go : (found : Option Hop) → first_sent t u found ≡ first_sent s u found
      go None = refl
      go (Some hop) = ap (λ (attached : Attachment). sent_on hop (slice_get attached.ports hop.port) u) are.attached

module _ (s : SystemState) (each : AllByRecursion IsPort s.attached.ports) where
  module _ (u : DataUnit) (few : header_size u ≤ 254) where
    part_is_first : (q : Packet) → IsPartOf (whole_packet u) q → IsFirstSent q
    part_is_first q is = record {
      hops = is.hops;
      lifetime = is.lifetime ∙ ap (λ (v : DataUnit). v.lifetime) (sym is.unit);
      options = is.options ∙ ap (λ (v : DataUnit). v.options) (sym is.unit);
    }

    by_pieces : (hop : Hop) → unit_hop s u ≡ Some hop → (port : PortConfig) → slice_get s.attached.ports hop.port ≡ Some port
        → (found : Option (List Packet)) → cut (whole_packet u) port.mtu ≡ found → IsSentOrDropped s u (transmissions hop found)
    by_pieces hop known port there None e = inr (inr (record { hop = hop; known = known; port = port; there = there; uncut = e }, refl))
    by_pieces hop known port there (Some given) e =
        let wide : 512 ≤ port.mtu = (AllByRecursion-slice_get IsPort s.attached.ports hop.port port there each).mtu.least in
        inl (record {
          hop = hop;
          known = known;
          pieces = given;
          sent = refl;
          all = cut_is_all (whole_packet u) port.mtu given few wide e;
          first = AllByRecursion-implies (IsPartOf (whole_packet u)) IsFirstSent part_is_first given (cut_is_parts (whole_packet u) port.mtu given e);
        })

    by_port : (hop : Hop) → unit_hop s u ≡ Some hop → (found : Option PortConfig) → slice_get s.attached.ports hop.port ≡ found
        → IsSentOrDropped s u (sent_on hop found u)
    by_port hop known None e =
        inr (inl (
          λ other is. subst (λ (h : Hop). slice_get s.attached.ports h.port ≡ None) (same_Some hop other (sym known ∙ is)) e,
          refl,
        ))
    by_port hop known (Some port) e = by_pieces hop known port e (cut (whole_packet u) port.mtu) refl

    pub sent_or_dropped : IsSentOrDropped s u (first_sent s u (unit_hop s u))
    sent_or_dropped = go (unit_hop s u) refl
      where
        go : (found : Option Hop) → unit_hop s u ≡ found → IsSentOrDropped s u (first_sent s u found)
        go None e = inr (inl (λ hop is. absurd (cc), refl))
        go (Some hop) e = by_port hop e (slice_get s.attached.ports hop.port) refl

  -- a unit that is asked for, whatever is kept
  pub made_or_refused : (buffers : List (Buffer Packet)) (kind : Kind) (from to octets : List ℕ) (ask : Ask)
      → MakesOrRefuses s kind from to octets (effect_of (make (record s { buffers = buffers }) kind from to octets ask))
  made_or_refused buffers kind from to octets ask =
      let t : SystemState = record s { buffers = buffers } in
      let u : DataUnit = unit_of t kind from to octets ask in
      let later : SystemState = (makes t u).after in
      let same : first_sent later u (unit_hop later u) ≡ first_sent s u (unit_hop s u) =
      sent_alike s later (record { configuration = refl; moment = refl; facts = refl; attached = refl }) u in
      refusal_such
      (λ refused. refusal t u ≡ refused → MakesOrRefuses s kind from to octets (effect_of (unless_refused refused t u)))
      (λ e. inl (record {
        unit = u;
        made = refl;
        kind_is = refl;
        source = refl;
        destination = refl;
        octets_are = refl;
        given = first_sent s u (unit_hop s u);
        told = ap (λ (more : List Output). Notes (sent_note u) ∷ more) (append-nil (first_sent later u (unit_hop later u)) ∙ same);
        goes = sent_or_dropped u (allowed t u e).header;
      }))
      (λ why value e. inr (record { why = why; value = value; told = refl; unmade = refl })) t u refl
