-- What holds of frames whether they came from outside or not.
use Rattle.std.specs.Prelude.{◌≡◌, ◌⊎◌, ℕ, List}
use Rattle.std.specs.List.{AllByRecursion, Contains}
use Rattle.clnp_machine.specs.Pdus.declared.nsap.target.Target.{Target}
use Rattle.clnp_machine.specs.ScenarioPlan.Plan.{Plan}
use Rattle.clnp_machine.specs.ClnpPlan.declared.scenario_plan.event.Event.{Event}
use Rattle.clnp_machine.specs.ClnpPlan.declared.scenario_plan.event.Event.TheVariants.{Inject}
use Rattle.clnp_machine.specs.Unit.{DataUnit, Maker, Outside, Packet}
use Rattle.clnp_machine.specs.Content.{Content, Labelled, Esis, Unlabelled, content_of, frame_of}
use Rattle.clnp_machine.specs.EveryStep.{BreaksNoEsisRule, BreaksNoRule}
use Rattle.clnp_machine.specs.ClnpNetwork.LabelledNetwork.{LabelledNetwork, Copy}
use Rattle.clnp_machine.specs.ClnpNetwork.Safe.{RangeIn}

-- where a frame carries a packet it breaks no rule of PDUs, and where it carries an ES-IS value none of ES-IS PDUs
abbrev pub PduIsUnbroken : Content → Type 0
PduIsUnbroken (Labelled packet following) = BreaksNoRule (frame_of (Labelled packet following))
PduIsUnbroken (Esis value following) = BreaksNoEsisRule (frame_of (Esis value following))
PduIsUnbroken (Unlabelled octets) = Unit {0}

-- so it is of each frame on the network
abbrev pub PdusAreUnbroken : LabelledNetwork → Type 0
PdusAreUnbroken w = AllByRecursion (λ copy. PduIsUnbroken copy.content) w.copies

-- what a copy carries was made outside, or it is a range of a unit that was made, or an ES-IS value that a PDU can carry
abbrev pub OutsideOrRange : List DataUnit → Copy → Type 0
OutsideOrRange units copy = (copy.maker ≡ Outside) ⊎ RangeIn units copy.birth copy.content

-- so it is of each copy on the network
abbrev pub CarriesRangesOrOutside : LabelledNetwork → Type 0
CarriesRangesOrOutside w = AllByRecursion (OutsideOrRange w.units) w.copies

-- who made what a frame carries made its packet's unit; octets that begin with no PDU are from outside
abbrev pub IsMadeBy : Maker → Content → Type 0
IsMadeBy maker (Labelled packet following) = maker ≡ packet.unit.maker
IsMadeBy maker (Esis value following) = Unit {0}
IsMadeBy maker (Unlabelled octets) = maker ≡ Outside

-- one of some events brings octets from outside, from an address
pub record IsBrought (events : List Event) (sender octets : List ℕ) : Type 0 where
  pub subnet : ℕ
  pub target : Target
  pub there : Contains events (Inject subnet sender target octets)

-- a copy is of a frame from outside, which an event of a scenario brought
pub record CameFromOutside (plan : Plan) (copy : Copy) : Type 0 where
  pub number : ℕ
  pub moment : ℕ
  pub octets : List ℕ
  pub brought : IsBrought plan.events copy.sender octets
  pub content : copy.content ≡ content_of number moment octets

-- a frame carries what a first one carried, or a packet of the unit of which that carried one
abbrev pub CarriesOf : (first content : Content) → Type 0
CarriesOf first (Labelled packet following) = (begun : Packet) × (rest : List ℕ) × (first ≡ Labelled begun rest) × (packet.unit ≡ begun.unit)
CarriesOf first (Esis value following) = first ≡ Esis value following
CarriesOf first (Unlabelled octets) = first ≡ Unlabelled octets

-- what a frame carries is that of a copy that came from outside
pub record IsTraced (plan : Plan) (copies : List Copy) (content : Content) : Type 0 where
  pub first : Copy
  pub there : Contains copies first
  pub outside : CameFromOutside plan first
  pub carries : CarriesOf first.content content

-- a copy has the maker of what it carries, and where that was made outside it is traced to an event
pub record HasItsMaker (plan : Plan) (copies : List Copy) (copy : Copy) : Type 0 where
  pub maker : IsMadeBy copy.maker copy.content
  pub outside : copy.maker ≡ Outside → IsTraced plan copies copy.content

-- so it is of each copy on the network
abbrev pub EachHasItsMaker : Plan → LabelledNetwork → Type 0
EachHasItsMaker plan w = AllByRecursion (HasItsMaker plan w.copies) w.copies
