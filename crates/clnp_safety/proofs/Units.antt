-- Units that were made: who made them, how long an identifier rests, and what stays sound while more are made.
use Rattle.clnp_machine.proofs.ClnpBase.Lists.{pair_across, pair_cases, pairs_behind}
use Rattle.clnp_machine.proofs.ClnpBase.Lists.{AllByRecursion-append, AllByRecursion-implies}
use Rattle.std.proofs.Common.{◌≡◌, ℕ, zero, suc, ◌+◌, ◌≤◌, ◌≢◌, ◌⊎◌, inl, inr, List, [], ◌∷◌, ◌++◌, Some, slice_get, Contains, length, flat_map, refl, sym, ap, subst, ◌∙◌, arith}
use Rattle.std.proofs.Math.Nat.{le-max_left}
use Rattle.std.proofs.lemmas.List.Elements.{Contains-append_left, Contains-append_right}
use Rattle.clnp_machine.specs.Reassembly.Arrival.{Arrival}
use Rattle.clnp_machine.specs.Reassembly.Buffer.{Buffer}
use Rattle.clnp_machine.specs.ScenarioPlan.Plan.{Plan, IsFit}
use Rattle.clnp_machine.specs.ClnpPlan.Configuration.{SystemConfiguration, AreDistinct}
use Rattle.clnp_machine.specs.ClnpOptions.Edits.{HaveOneForm}
use Rattle.clnp_machine.specs.Pdus.declared.pdu_header.kind.Kind.{Kind}
use Rattle.clnp_machine.specs.Pdus.declared.pdu_header.kind.Kind.TheVariants.{Dt, Er, Erq, Erp}
use Rattle.clnp_machine.specs.Edited.{AreEdited}
use Rattle.clnp_machine.proofs.Editing.{edited_again}
use Rattle.clnp_machine.specs.Unit.{DataUnit, IsCarriable, Packet}
use Rattle.clnp_machine.specs.Content.{Content, Labelled, Esis, Unlabelled}
use Rattle.clnp_machine.specs.System.{SystemState}
use Rattle.clnp_machine.specs.EveryStep.{GoesOnFrom, IsRangeOf}
use Rattle.std.specs.List.{AllByRecursion}
use Rattle.clnp_machine.specs.ClnpNetwork.LabelledNetwork.{Copy}
use Rattle.clnp_machine.specs.ClnpNetwork.Safe.{Rests}
use Rattle.clnp_machine.specs.ClnpNetwork.Run.{Entry}
use Rattle.clnp_safety.specs.Invariant.{Owns, CopyIsSound, Carries, IsMadeOn, IsOfUnit, BufferIsSound, EachRests, UnitIsSound, UnitsAreSound}
use Rattle.clnp_safety.specs.StepLaws.{StepLaws}
pub use Rattle.clnp_machine.proofs.Sent.{range_sooner, range_later}

-- one of two units with a maker and an identifier rests behind the other
pub same_unit : (reuse : ℕ) (units : List DataUnit) (u v : DataUnit) (i : ℕ) → EachRests reuse units → Contains units u → Contains units v
    → u.maker ≡ v.maker → u.identifier ≡ Some i → v.identifier ≡ Some i
    → (u ≡ v) ⊎ (u.made + reuse ≤ v.made) ⊎ (v.made + reuse ≤ u.made)
same_unit reuse units u v i rests has_u has_v maker id_u id_v =
    elim (pair_cases (Rests reuse) units u v rests has_u has_v) [
      | inl same ↦ inl same
      | inr (inl before) ↦ inr (inl (before maker i id_u id_v))
      | inr (inr after) ↦ inr (inr (after (sym maker) i id_v id_u))
    ]

-- Owners of addresses.

abbrev addresses_of : SystemConfiguration → List (List ℕ)
addresses_of system = system.addresses

among_all : (systems : List SystemConfiguration) (place : ℕ) (system : SystemConfiguration) (address : List ℕ)
    → slice_get systems place ≡ Some system → Contains system.addresses address → Contains (flat_map addresses_of systems) address
among_all [] place system address there own = absurd (cc)
among_all (one ∷ others) zero system address there own =
    let same : one ≡ system = cc in
    Contains-append_left one.addresses (flat_map addresses_of others) address
    (subst (λ (s : SystemConfiguration). Contains s.addresses address) (sym same) own)
among_all (one ∷ others) (suc place) system address there own =
    Contains-append_right one.addresses (flat_map addresses_of others) address (among_all others place system address there own)

one_owner : (systems : List SystemConfiguration) (place other : ℕ) (first second : SystemConfiguration) (address : List ℕ)
    → AreDistinct (flat_map addresses_of systems)
    → slice_get systems place ≡ Some first → Contains first.addresses address
    → slice_get systems other ≡ Some second → Contains second.addresses address → place ≡ other
one_owner [] place other first second address distinct at own there owns = absurd (cc)
one_owner (one ∷ others) zero zero first second address distinct at own there owns = refl
one_owner (one ∷ others) zero (suc other) first second address distinct at own there owns =
    let same : one ≡ first = cc in
    let here : Contains one.addresses address = subst (λ (s : SystemConfiguration). Contains s.addresses address) (sym same) own in
    absurd (pair_across (λ a b. a ≢ b) one.addresses (flat_map addresses_of others) address address distinct here
    (among_all others other second address there owns) refl)
one_owner (one ∷ others) (suc place) zero first second address distinct at own there owns =
    let same : one ≡ second = cc in
    let here : Contains one.addresses address = subst (λ (s : SystemConfiguration). Contains s.addresses address) (sym same) owns in
    absurd (pair_across (λ a b. a ≢ b) one.addresses (flat_map addresses_of others) address address distinct here
    (among_all others place first address at own) refl)
one_owner (one ∷ others) (suc place) (suc other) first second address distinct at own there owns =
    ap suc (one_owner others place other first second address
    (pairs_behind (λ a b. a ≢ b) one.addresses (flat_map addresses_of others) distinct) at own there owns)

-- an address is that of one system
pub different_makers : (plan : Plan) (place other : ℕ) (address : List ℕ) → IsFit plan → Owns plan place address → Owns plan other address → place ≡ other
different_makers plan place other address fit own owns =
    one_owner plan.systems place other own.system owns.system address fit.addresses own.there own.own owns.there owns.own

-- A packet that goes on is a range of the unit of that which came, with options of the same form, and it was forwarded no more
-- often than its lifetime allowed.

pub lives_within : (s : SystemState) (port : ℕ) (came p : Packet) → GoesOnFrom s port came p → came.hops + came.lifetime ≤ came.unit.lifetime
    → p.hops + p.lifetime ≤ p.unit.lifetime
lives_within s port came p on h =
    let hops = on.hops in
    let lost = on.lifetime in
    let most : p.unit.lifetime ≡ came.unit.lifetime = ap (λ (u : DataUnit). u.lifetime) on.unit in
    let loss = le-max_left 1 on.port.transit in
    omega arith

pub packet_goes_on : StepLaws → (units : List DataUnit) (s : SystemState) (port : ℕ) (came p : Packet) → GoesOnFrom s port came p → IsRangeOf units came
    → IsCarriable came → IsRangeOf units p
packet_goes_on laws units s port came p on h carriable = record {
  unit = subst (Contains units) (sym on.unit) h.unit;
  options = laws.headers.chained p.options came.options p.unit.options (on.options carriable)
      (subst (λ (u : DataUnit). HaveOneForm came.options u.options) (sym on.unit) h.options);
  edits = edited_again p.unit.options came.options p.options (subst (λ (u : DataUnit). AreEdited u.options came.options) (sym on.unit) h.edits) on.edits;
  lifetime = lives_within s port came p on h.lifetime;
  within =
      let from = on.from in
      let to = on.to in
      let within = h.within in
      let octets : length p.unit.octets ≡ length came.unit.octets = ap (λ (u : DataUnit). length u.octets) on.unit in
      omega arith;
  whole = λ none.
      let same = on.whole none in
      let all = h.whole (ap (λ (u : DataUnit). u.identifier) (sym on.unit) ∙ none) in
      (same.0 ∙ all.0, same.1 ∙ all.1 ∙ ap (λ (u : DataUnit). length u.octets) (sym on.unit));
}

-- What is sound stays so as more units are made.

module _ (units more : List DataUnit) where
  content_later : (content : Content) → Carries (IsRangeOf units) content → Carries (IsRangeOf (units ++ more)) content
  content_later (Labelled packet following) h = (range_sooner units more packet h.0, h.1)
  content_later (Esis value following) h = h
  content_later (Unlabelled octets) h = absurd h

  pub copy_later : (copy : Copy) → CopyIsSound units copy → CopyIsSound (units ++ more) copy
  copy_later copy h = record {
    sender = h.sender;
    carries = content_later copy.content h.carries;
    carried = h.carried;
    birth = h.birth;
    maker = h.maker;
  }

  segment_later : (u : DataUnit) (arrival : Arrival Packet) → IsOfUnit units u arrival → IsOfUnit (units ++ more) u arrival
  segment_later u arrival h = record { packet = range_sooner units more arrival.carried h.packet; carriable = h.carriable; unit = h.unit; offered = h.offered }

  pub buffer_later : (plan : Plan) (buffer : Buffer Packet) → BufferIsSound plan units buffer → BufferIsSound plan (units ++ more) buffer
  buffer_later plan buffer h = record {
    unit = h.unit;
    made = Contains-append_left units more h.unit h.made;
    identifier = h.identifier;
    identified = h.identified;
    key = h.key;
    shape = h.shape;
    opened = h.opened;
    deadline = h.deadline;
    kept = AllByRecursion-implies (IsOfUnit units h.unit) (IsOfUnit (units ++ more) h.unit) (segment_later h.unit) buffer.kept h.kept;
  }

-- units stay founded and sound as units are made
module _ (plan : Plan) (past : List Entry) (units more : List DataUnit) where
  founded_later : (kind : Kind) (u : DataUnit) → IsMadeOn plan past units kind u → IsMadeOn plan past (units ++ more) kind u
  founded_later Dt u h = h
  founded_later Er u h = record {
    whole = h.whole;
    packet = h.packet;
    range = range_sooner units more h.packet h.range;
    destination = h.destination;
    data_are = h.data_are;
  }
  founded_later Erq u h = h
  founded_later Erp u h = h

  unit_more : (u : DataUnit) → UnitIsSound plan past units u → UnitIsSound plan past (units ++ more) u
  unit_more u h = record {
    founded = founded_later u.kind u h.founded;
    place = h.place;
    maker = h.maker;
    owner = h.owner;
    first_position = h.first_position;
    total = h.total;
  }

  -- the units that were there, and those that are made
  pub units_with : UnitsAreSound plan past units → EachRests plan.limits.reuse (units ++ more)
      → AllByRecursion (UnitIsSound plan past units) more → UnitsAreSound plan past (units ++ more)
  units_with made rest new = record {
    each = AllByRecursion-append (UnitIsSound plan past (units ++ more)) units more
        (AllByRecursion-implies (UnitIsSound plan past units) (UnitIsSound plan past (units ++ more)) unit_more units made.each)
        (AllByRecursion-implies (UnitIsSound plan past units) (UnitIsSound plan past (units ++ more)) unit_more more new);
    rest = rest;
  }

-- copies stay sound as units are made
pub copies_later : (units more : List DataUnit) (copies : List Copy) → AllByRecursion (CopyIsSound units) copies
    → AllByRecursion (CopyIsSound (units ++ more)) copies
copies_later units more copies h =
    AllByRecursion-implies (CopyIsSound units) (CopyIsSound (units ++ more)) (copy_later units more) copies h
