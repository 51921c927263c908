-- Which echo requests are to be answered, and which of them a reply answers (RFC 1575).
use Rattle.std.specs.Prelude.{◌≡◌, ℕ, ◌-◌, ◌⊎◌, true, false, List, ◌∷◌, ◌++◌, length, drop}
use Rattle.std.specs.List.{AllByRecursion}
use Rattle.clnp_plan.specs.Pdus.declared.pdu_header.kind.Kind.TheVariants.{Erp}
use Rattle.clnp_machine.specs.Unit.{Packet, DataUnit}
use Rattle.clnp_machine.specs.Content.{Labelled}
use Rattle.clnp_machine.specs.System.{Input, AsksForEcho, FrameComes, IsRestarted}
use Rattle.clnp_machine.specs.Local.{is_answer}

-- the last of some units, so many at most
abbrev pub newest : ℕ → List DataUnit → List DataUnit
newest most units = drop (length units - most) units

-- a reply between two addresses with these data answers none of some requests
abbrev pub AnswersNone : (source destination octets : List ℕ) → List DataUnit → Type 0
AnswersNone source destination octets requests =
    AllByRecursion (λ request. is_answer source destination octets request ≡ false) requests

-- it answers one of them, which is the oldest that it may answer, between those before and those behind it
pub record AnswersOldest (source destination octets : List ℕ) (requests before : List DataUnit) (request : DataUnit) (behind : List DataUnit) : Type 0 where
  pub among : requests ≡ before ++ request ∷ behind
  pub none_before : AnswersNone source destination octets before
  pub answers : is_answer source destination octets request ≡ true

-- a packet is a reply that answers the oldest of some requests that it may answer, and the others are left
pub record IsAnsweredBy (p : Packet) (requests left : List DataUnit) : Type 0 where
  pub kind : p.unit.kind ≡ Erp
  pub octets : List ℕ
  pub before : List DataUnit
  pub request : DataUnit
  pub behind : List DataUnit
  pub oldest : AnswersOldest p.unit.source p.unit.destination octets requests before request behind
  pub left_are : left ≡ before ++ behind

-- requests stay where a packet comes, unless it answers one of them
abbrev pub StayUnlessAnswered : Packet → (requests left : List DataUnit) → Type 0
StayUnlessAnswered p requests left = (left ≡ requests) ⊎ IsAnsweredBy p requests left

-- no packet comes, no echo is asked for, and nobody restarts the system
abbrev pub AnswersNothing : Input → Type 0
AnswersNothing (FrameComes port sender to_group (Labelled packet following)) = ⊥
AnswersNothing (AsksForEcho from to octets) = ⊥
AnswersNothing IsRestarted = ⊥
AnswersNothing _ = Unit {0}
