-- What the code's types mean.
use Rattle.std.specs.Prelude.{ℕ, ◌==◌, not, if◌then◌else◌, List, Option, Some, option_map}
use Rattle.pdus.specs.declared.clnp_options.judge.OptionRefusal.{OptionRefusal}
use Rattle.pdus.specs.ClnpOptions.Parameter.{parameters}
use Rattle.pdus.specs.declared.pdu_header.pdu.SegPart.{SegPart}
use Rattle.pdus.specs.declared.pdu_header.pdu.Pdu.{Pdu}
use Rattle.pdus.specs.declared.pdu_header.pdu.Refusal.{Refusal}
use Rattle.pdus.specs.declared.pdu_header.pdu.Refusal.TheVariants.{NotClnp, Broken}
use Rattle.pdus.specs.PduHeader.Layout.{protocol}
use Rattle.pdus.specs.PduHeader.Rules.{octet, refusal, is_reportable}
use Rattle.pdus.specs.PduHeader.Value.{SegmentationPart, PduValue}

abbrev pub part_value : SegPart → SegmentationPart
part_value part = record { identifier = part.id; offset = part.offset; total = part.total }

-- the value that a PDU carries: it has a checksum where the two octets aren't both 0
abbrev pub pdu_value : Pdu → PduValue
pdu_value pdu =
    record {
      kind = pdu.kind;
      lifetime = pdu.life;
      report = pdu.report;
      sealed = not (pdu.sum == 0);
      more = pdu.more;
      destination = pdu.to;
      source = pdu.from;
      segmentation = option_map part_value pdu.seg;
      options = parameters pdu.options.now;
      body = pdu.body.now;
    }

-- a broken rule of a frame, as it is told
abbrev pub told : List ℕ → OptionRefusal → Refusal
told frame broken =
    Broken (record { rule = broken.rule; reason = broken.reason; place = broken.place; reportable = is_reportable frame })

-- Why a frame is refused: it doesn't begin with 0x81, or it breaks a rule.
abbrev pub why_refused : List ℕ → Option Refusal
why_refused frame = if octet frame 1 == protocol then option_map (told frame) (refusal frame) else Some NotClnp
