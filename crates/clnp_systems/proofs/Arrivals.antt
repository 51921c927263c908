-- What the decoders say of a frame determines what comes of it.
use Rattle.std.proofs.Common.{◌≡◌, ◌≢◌, ◌∙◌, refl, sym, ap, subst, ℕ, Bool, true, false, Option, Some, None, List, ◌++◌, length, cond, option_map, arith}
use Rattle.std.specs.Prelude.{◌==◌}
use Rattle.std.proofs.lemmas.Bool.{ne_eqb}
use Rattle.clnp_machine.specs.Pdus.declared.clnp_options.judge.OptionRefusal.{OptionRefusal}
use Rattle.clnp_machine.specs.Pdus.declared.pdu_header.pdu.Refusal.{Refusal}
use Rattle.clnp_machine.specs.Pdus.declared.pdu_header.pdu.Broken.{Broken}
use Rattle.clnp_machine.specs.Pdus.declared.pdu_header.pdu.Refusal.TheVariants as refused
use Rattle.clnp_machine.specs.PduHeader.Value.{PduValue}
use Rattle.clnp_machine.specs.PduHeader.Grammar.{BeginsWith}
use Rattle.clnp_machine.specs.PduHeader.Rules.{octet, refusal}
use Rattle.clnp_machine.specs.PduHeader.View.{part_value, pdu_value, told, why_refused}
use Rattle.clnp_machine.specs.PduHeader.Headers.{SpellsHeader}
use Rattle.clnp_machine.specs.Pdus.declared.pdu_header.pdu.Pdu.{Pdu}
use Rattle.clnp_systems.specs.Comes.{HasValue}
use Rattle.clnp_machine.specs.Pdus.declared.esis_pdus.pdu.EsisRefusal.{EsisRefusal}
use Rattle.clnp_machine.specs.EsisPdus.Grammar as esis
use Rattle.clnp_machine.specs.EsisPdus.Rules as esis_rules
use Rattle.clnp_machine.specs.EsisPdus.Spelling.{spelling}
use Rattle.clnp_machine.specs.EsisPdus.Value.{EsisValue}
use Rattle.clnp_machine.specs.SystemTables.declared.esis_tables.fact.Neighbour.{Neighbour}
use Rattle.clnp_machine.specs.Unit.{IsCarriable, Packet, value_of, wire}
use Rattle.clnp_machine.specs.Content.{Content, IsCarried, Labelled, Esis, Unlabelled, frame_of}
use Rattle.clnp_machine.specs.System.{SystemState}
use Rattle.clnp_machine.specs.Local.{discard, tells}
use Rattle.clnp_machine.specs.EveryStep.{CarriesOneEsisValue, CarriesOnePacket}
use Rattle.clnp_machine.specs.Step.{begins_unit, content_comes, discard_refused, effect_of, octets_come, unheard_note}

-- a frame with an ES-IS value begins with the protocol's octet, one with a packet with its own
abbrev pub BeginsAsEsis : Type 0
BeginsAsEsis = (value : EsisValue) (following : List ℕ) → esis.IsPdu value → octet (spelling value ++ following) 1 ≡ 0x82

abbrev pub BeginsAsClnp : Type 0
BeginsAsClnp = (p : Packet) (following : List ℕ) → IsCarriable p → octet (wire p ++ following) 1 ≡ 0x81

-- the PDU at the front of a frame is the packet's that it carries
pub packet_found : CarriesOnePacket → BeginsAsEsis → (P : Content → Type 0) (frame : List ℕ) (v : PduValue) (rest : List ℕ) → BeginsWith frame v rest
    → octet frame 1 ≡ 0x81 → (content : Content) → IsCarried content → frame_of content ≡ frame
    → ((p : Packet) (following : List ℕ) → IsCarriable p → frame ≡ wire p ++ following → v ≡ value_of p → P (Labelled p following))
    → P content
packet_found one begun P frame v rest begins at (Labelled p following) carriable e for_packet =
    let same : v ≡ value_of p = (one p following v rest carriable (subst (λ (f : List ℕ). BeginsWith f v rest) (sym e) begins)).0 in
    for_packet p following carriable (sym e) same
packet_found one begun P frame v rest begins at (Esis value following) pdu e for_packet =
    let other : octet frame 1 ≡ 0x82 = ap (λ (f : List ℕ). octet f 1) (sym e) ∙ begun value following pdu in
    absurd (omega arith)
packet_found one begun P frame v rest begins at (Unlabelled octets) none e for_packet =
    absurd (none.clnp v rest (record { octets = begins.octets; spells = begins.spells; split = e ∙ begins.split }))

-- the ES-IS value at the front of a frame of another protocol is the value that it carries
pub value_found : CarriesOneEsisValue → BeginsAsClnp → (P : Content → Type 0) (frame : List ℕ) (v : EsisValue) (rest : List ℕ)
    → esis.BeginsWith frame v rest → octet frame 1 ≢ 0x81 → (content : Content) → IsCarried content → frame_of content ≡ frame
    → ((following : List ℕ) → P (Esis v following)) → P content
value_found one begun P frame v rest begins other (Labelled p following) carriable e for_value =
    absurd (other (ap (λ (f : List ℕ). octet f 1) (sym e) ∙ begun p following carriable))
value_found one begun P frame v rest begins other (Esis value following) pdu e for_value =
    let same : v ≡ value = (one value following v rest pdu (subst (λ (f : List ℕ). esis.BeginsWith f v rest) (sym e) begins)).0 in
    subst (λ (w : EsisValue). P (Esis w following)) same (for_value following)
value_found one begun P frame v rest begins other (Unlabelled octets) none e for_value =
    absurd (none.esis v rest (record { octets = begins.octets; spells = begins.spells; split = e ∙ begins.split }))

-- what is needed of a PDU that was read has its value
pub of_value : (pdu : Pdu) (first : Bool) (len : ℕ) → SpellsHeader (pdu_value pdu) pdu.head.now
    → first ≡ begins_unit (option_map part_value pdu.seg) → len ≡ length pdu.body.now
    → HasValue (record { to = pdu.to; from = pdu.from; first = first; life = pdu.life; head = pdu.head; len = len }) (pdu_value pdu)
of_value pdu first len spells begins count =
    record {
      destination = refl;
      source = refl;
      first = sym begins;
      lifetime = refl;
      header = spells;
      len = sym count;
    }

-- the reason and the place that a refusal tells
abbrev reason_in : Refusal → ℕ
reason_in (refused.Broken broken) = broken.reason
reason_in refused.NotClnp = 0

abbrev place_in : Refusal → ℕ
place_in (refused.Broken broken) = broken.place
place_in refused.NotClnp = 0

-- octets that break a rule are discarded for its reason
broken_by : (s : SystemState) (octets : List ℕ) (broken : Broken) (least : Option OptionRefusal) → option_map (told octets) least ≡ Some (refused.Broken broken)
    → discard_refused s octets least ≡ discard s (Unlabelled octets) broken.reason broken.place
broken_by s octets broken None e = absurd (cc)
broken_by s octets broken (Some least) e =
    let same : told octets least ≡ refused.Broken broken = cc in
    ap (λ (r : ℕ). discard s (Unlabelled octets) r least.place) (ap reason_in same) ∙ ap (λ (q : ℕ). discard s (Unlabelled octets) broken.reason q) (ap place_in same)

octets_broken : (s : SystemState) (octets : List ℕ) (broken : Broken) → why_refused octets ≡ Some (refused.Broken broken)
    → octets_come s octets ≡ discard s (Unlabelled octets) broken.reason broken.place
octets_broken s octets broken e =
    (elim (octet octets 1 == 0x81) as (λ b. cond b (option_map (told octets) (refusal octets)) (Some refused.NotClnp) ≡ Some (refused.Broken broken)
    → cond b (discard_refused s octets (refusal octets)) (tells s (unheard_note (esis_rules.why_refused octets)))
    ≡ discard s (Unlabelled octets) broken.reason broken.place) [
      | true ↦ broken_by s octets broken (refusal octets)
      | false ↦ λ (h : (let x : Option Refusal = Some refused.NotClnp in x) ≡ Some (refused.Broken broken)). absurd (cc)
    ]) e

-- a frame that is refused for a rule of CLNP begins as one of its PDUs
begins_refused : (frame : List ℕ) (broken : Broken) → why_refused frame ≡ Some (refused.Broken broken) → octet frame 1 ≡ 0x82 → ⊥
begins_refused frame broken e other =
    let test : (octet frame 1 == 0x81) ≡ false = ne_eqb (octet frame 1) 0x81 (λ at. absurd (omega arith)) in
    let none : Some refused.NotClnp ≡ Some (refused.Broken broken) =
    subst (λ (b : Bool). cond b (option_map (told frame) (refusal frame)) (Some refused.NotClnp) ≡ Some (refused.Broken broken)) test e in
    absurd (cc)

-- a frame that is refused for a rule is discarded for its reason
pub frame_broken : BeginsAsEsis → (s : SystemState) (neighbour : Neighbour) (group : Bool) (frame : List ℕ) (broken : Broken)
    → why_refused frame ≡ Some (refused.Broken broken) → ((v : PduValue) (rest : List ℕ) → BeginsWith frame v rest → ⊥)
    → (content : Content) → IsCarried content → frame_of content ≡ frame
    → effect_of (discard s content broken.reason broken.place) ≡ content_comes s neighbour group content
frame_broken begun s neighbour group frame broken why none (Labelled p following) carriable e =
    absurd (none (value_of p) following (record { octets = wire p; spells = record { pdu = carriable.pdu; octets_are = refl }; split = sym e }))
frame_broken begun s neighbour group frame broken why none (Esis value following) pdu e =
    absurd (begins_refused frame broken why (ap (λ (f : List ℕ). octet f 1) (sym e) ∙ begun value following pdu))
frame_broken begun s neighbour group frame broken why none (Unlabelled octets) carried e =
    ap effect_of (sym (octets_broken s octets broken (ap why_refused e ∙ why)))

octets_unheard : (s : SystemState) (octets : List ℕ) → octet octets 1 ≢ 0x81
    → octets_come s octets ≡ tells s (unheard_note (esis_rules.why_refused octets))
octets_unheard s octets other =
    ap (λ (b : Bool). cond b (discard_refused s octets (refusal octets)) (tells s (unheard_note (esis_rules.why_refused octets)))) (ne_eqb (octet octets 1) 0x81 other)

-- a frame of neither protocol is noted
pub frame_unheard : BeginsAsClnp → (s : SystemState) (neighbour : Neighbour) (group : Bool) (frame : List ℕ) (why : EsisRefusal)
    → esis_rules.why_refused frame ≡ Some why → ((v : EsisValue) (rest : List ℕ) → esis.BeginsWith frame v rest → ⊥) → octet frame 1 ≢ 0x81
    → (content : Content) → IsCarried content → frame_of content ≡ frame
    → effect_of (tells s (unheard_note (Some why))) ≡ content_comes s neighbour group content
frame_unheard begun s neighbour group frame why is none other (Labelled p following) carriable e =
    absurd (other (ap (λ (f : List ℕ). octet f 1) (sym e) ∙ begun p following carriable))
frame_unheard begun s neighbour group frame why is none other (Esis value following) pdu e =
    absurd (none value following (record { octets = spelling value; spells = record { pdu = pdu; octets_are = refl }; split = sym e }))
frame_unheard begun s neighbour group frame why is none other (Unlabelled octets) carried e =
    ap (λ (r : Option EsisRefusal). effect_of (tells s (unheard_note r))) (sym (ap esis_rules.why_refused e ∙ is))
    ∙ ap effect_of (sym (octets_unheard s octets (λ at. other (ap (λ (f : List ℕ). octet f 1) (sym e) ∙ at))))
