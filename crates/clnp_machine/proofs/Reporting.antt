-- Frames that are discarded, and the reports of their discard; and replies.
use Rattle.clnp_plan.proofs.ClnpBase.Choices.{below_not}
use Rattle.clnp_plan.proofs.ClnpBase.Lists.{AllByRecursion-contains, AllByRecursion-mapped}
use Rattle.std.proofs.Common.{◌≡◌, ◌∙◌, refl, sym, ap, ℕ, ◌+◌, ◌-◌, ◌≤◌, inl, false, List, [], ◌++◌, length, take, drop, Option, None, Some, Contains, append_assoc, arith}
use Rattle.std.specs.Prelude.{◌==◌, option_map}
use Rattle.std.specs.List.{AllByRecursion}
use Rattle.std.proofs.lemmas.List.{get_or_append_left, take_all, take_at}
use Rattle.clnp_plan.specs.ClnpOptions.Parameter.{parameters_after}
use Rattle.clnp_plan.specs.Pdus.declared.pdu_header.kind.Kind.{Kind}
use Rattle.clnp_plan.specs.Pdus.declared.pdu_header.kind.Kind.TheVariants.{Dt, Er, Erq, Erp}
use Rattle.clnp_plan.specs.PduHeader.Grammar.{BeginsWith, IsPdu, is_report}
use Rattle.clnp_plan.specs.PduHeader.Reading.{address_at}
use Rattle.clnp_plan.specs.PduHeader.Rules.{header_of, header_size as size_of_header, source_place}
use Rattle.clnp_plan.specs.PduHeader.Spelling.{header, segmentation_octets, type_code}
use Rattle.clnp_plan.specs.PduHeader.Value.{PduValue, SegmentationPart}
use Rattle.pdus.specs.MadePdus.Report.{source_of}
use Rattle.pdus.specs.MadePdus.Reply.{part_of, plain_length, reply_of}
use Rattle.pdus.proofs.MadePdus.ReplyLengths.{head_is}
use Rattle.system_tables.specs.Reassembly.Arrival.{Arrival}
use Rattle.clnp_machine.specs.Unit.{DataUnit, IsCarriable, Packet, more_follows, segmentation_of, value_of, whole_packet, wire}
use Rattle.clnp_machine.specs.Content.{Labelled, Esis, Unlabelled}
use Rattle.clnp_machine.specs.System.{SystemState, Input, AsksToSend, AsksForEcho, FrameComes, MomentComes, IsRestarted, IsCongested, IsChanged}
use Rattle.clnp_machine.specs.Local.{IsAsOffered, echo_ask, header_size}
use Rattle.clnp_machine.specs.Step.{step}
use Rattle.clnp_machine.specs.EveryStep.{IsFair, IsReportOf, KeepsAsOffered, ReportsOn, segments_in}
use Rattle.clnp_machine.specs.Told.{SpellsPdus}
use Rattle.clnp_machine.proofs.Deeds.{AllSuch, carried_in, leads_step, reply_unit}
use Rattle.clnp_machine.proofs.Making.{total_is}
use Rattle.clnp_machine.proofs.Pieces.{with_parts}
use Rattle.clnp_machine.proofs.Headers.{is_front, read_as}

-- a packet's PDU stands at the front of its frame
pub begins : (p : Packet) (following : List ℕ) → IsCarriable p → BeginsWith (wire p ++ following) (value_of p) following
begins p following h = record { octets = wire p; spells = record { pdu = h.pdu; octets_are = refl }; split = refl }

header_at : (v : PduValue) → IsPdu v → (behind : List ℕ) → header_of (header v ++ behind) ≡ header v
header_at v pdu behind =
    let read = read_as v pdu in
    let long : 9 ≤ length (header v) = read.long in
    let size : size_of_header (header v ++ behind) ≡ length (header v) = get_or_append_left (header v) behind 0 1 (omega arith) ∙ read.size in
    take_at (header v) behind (size_of_header (header v ++ behind)) (sym size)

pub header_in : (p : Packet) (following : List ℕ) → IsCarriable p → header_of (wire p ++ following) ≡ header (value_of p)
header_in p following h =
    ap header_of (append_assoc (header (value_of p)) (value_of p).body following) ∙ header_at (value_of p) h.pdu ((value_of p).body ++ following)

pub same_header : (p : Packet) (following : List ℕ) → IsCarriable p → header_of (wire p ++ following) ≡ header_of (wire p)
same_header p following h = header_in p following h ∙ sym (header_at (value_of p) h.pdu (value_of p).body)

pub same_source : (p : Packet) (following : List ℕ) → IsCarriable p → source_of (wire p ++ following) ≡ source_of (wire p)
same_source p following h = ap (λ (head : List ℕ). address_at head (source_place head)) (same_header p following h)

-- the source that it names is the unit's
pub source_is : (p : Packet) (following : List ℕ) → IsCarriable p → source_of (wire p ++ following) ≡ p.unit.source
source_is p following h = sym (ap (λ (v : PduValue). v.source) (is_front (wire p ++ following) (value_of p) following (begins p following h)).value)

-- Reports are of packets.

of_packet : (p : Packet) (following : List ℕ) → IsCarriable p → (u : DataUnit) → IsReportOf (wire p ++ following) u
    → IsReportOf (wire p) u
of_packet p following h u is = record {
  kind = is.kind;
  unreported = is.unreported;
  whole = is.whole;
  destination = is.destination ∙ same_source p following h;
  data_are = is.data_are ∙ same_header p following h;
}

pub kept_carriable : (s : SystemState) → KeepsAsOffered s → (p : Packet) → Contains (carried_in s.buffers) p → IsCarriable p
kept_carriable s keeps p there =
    AllByRecursion-contains IsCarriable (carried_in s.buffers) p there
    (AllByRecursion-mapped IsAsOffered IsCarriable (λ (arrival : Arrival Packet). arrival.carried) (segments_in s.buffers) (λ arrival is. is.carriable) keeps)

all_of_packets : (s : SystemState) (input : Input) → IsFair input → SpellsPdus input → KeepsAsOffered s → AllSuch (ReportsOn s input) s input
all_of_packets s (AsksToSend from to octets ask) fair spells keeps = λ none er. absurd (cc)
all_of_packets s (AsksForEcho from to octets) fair spells keeps = λ none er. absurd (cc)
all_of_packets s (FrameComes port sender to_group (Labelled p following)) fair spells keeps = record {
  reported = λ reason of_none t at own first reportable er. (
    p,
    inl refl,
    of_packet p following fair.1 _
        (record { kind = refl; unreported = refl; whole = refl; destination = refl; data_are = refl }),
    sym (same_source p following fair.1) ∙ source_is p following fair.1,
  );
  replied = λ octets request t at none er. absurd (cc);
}
all_of_packets s (FrameComes port sender to_group (Esis value following)) fair spells keeps = tt
all_of_packets s (FrameComes port sender to_group (Unlabelled octets)) fair spells keeps = absurd spells
all_of_packets s (MomentComes now) fair spells keeps = λ p there t at own first reportable er.
    let is = kept_carriable s keeps p there in (
      p,
      there,
      of_packet p [] is _ (record { kind = refl; unreported = refl; whole = refl; destination = refl; data_are = refl }),
      sym (same_source p [] is) ∙ source_is p [] is,
    )
all_of_packets s IsRestarted fair spells keeps = tt
all_of_packets s (IsCongested on) fair spells keeps = tt
all_of_packets s (IsChanged change) fair spells keeps = tt

pub step_reports : (s : SystemState) (input : Input) → IsFair input → SpellsPdus input → KeepsAsOffered s
    → AllByRecursion (ReportsOn s input) (step s input).units
step_reports s input fair spells keeps = (leads_step (ReportsOn s input) s input (all_of_packets s input fair spells keeps)).makes.such

-- Which kind is that of a report.
pub report_kind : (kind : Kind) → is_report kind ≡ (type_code kind == type_code Er)
report_kind Dt = refl
report_kind Er = refl
report_kind Erq = refl
report_kind Erp = refl

-- The PDU of a reply.

module _ (s : SystemState) (request : PduValue) where
  abbrev reply : DataUnit
  reply = reply_unit s request.source request.destination request.body

  reply_total : reply.total ≡ header_size reply + length request.body
  reply_total =
      total_is s Erp request.destination request.source request.body (echo_ask s request.destination request.source (length request.body) false)

  reply_part : (identifier : Option ℕ) → reply.identifier ≡ identifier
      → option_map (λ (i : ℕ). let part : SegmentationPart = record { identifier = i; offset = 0; total = reply.total } in part) identifier ≡ part_of request identifier
  unfolding parameters_after
  reply_part None e = refl
  reply_part (Some identifier) e =
      let part : SegmentationPart = record { identifier = identifier; offset = 0; total = reply.total } in
      let size : header_size reply ≡ plain_length request.destination request.source + length (segmentation_octets (segmentation_of (whole_packet reply))) =
      head_is request.source request.destination (segmentation_of (whole_packet reply)) [] refl in
      let six : length (segmentation_octets (segmentation_of (whole_packet reply))) ≡ 6 =
      ap (λ (o : Option ℕ). length (segmentation_octets (option_map (λ (i : ℕ). let p : SegmentationPart = record { identifier = i; offset = 0; total = reply.total } in p) o))) e in
      ap (λ (total : ℕ). let p : SegmentationPart = record { identifier = identifier; offset = 0; total = total } in Some p)
      (reply_total ∙ omega arith)

  reply_ends : (identifier : Option ℕ) → more_follows (whole_packet reply) identifier ≡ false
  reply_ends None = refl
  reply_ends (Some identifier) =
      let total = reply_total in below_not (0 + length request.body) (reply.total - header_size reply) (omega arith)

  pub reply_value : value_of (whole_packet reply) ≡ reply_of request reply.identifier s.configuration.settings.life s.configuration.settings.sealed
  unfolding parameters_after
  reply_value =
      with_parts (reply_of request reply.identifier s.configuration.settings.life s.configuration.settings.sealed) (segmentation_of (whole_packet reply))
      (part_of request reply.identifier) (more_follows (whole_packet reply) reply.identifier) false
      (take (length request.body) (drop (0 - 0) request.body)) request.body (reply_part reply.identifier refl) (reply_ends reply.identifier)
      (take_all (length request.body) request.body (omega arith))
