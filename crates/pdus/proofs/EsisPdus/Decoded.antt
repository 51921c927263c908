-- What is read off a frame stands at its front, can be written, and nothing stands at the front of a frame that is refused.
use Rattle.std.proofs.Common.{◌≡◌, sym, subst, ℕ, List, Result, Ok, Err}
use Rattle.std.specs.Prelude.{IfOk, OnErr}
use Rattle.hex.specs.Hex.{IsBytes}
use Rattle.pdus.specs.Fletcher.Checksum.{octet}
use Rattle.pdus.specs.ClnpOptions.Parameter.{parameters, spelled}
use Rattle.pdus.specs.PduHeader.Rules.{header_of}
use Rattle.pdus.specs.declared.esis_pdus.pdu.EsisPdu.{EsisPdu}
use Rattle.pdus.specs.declared.esis_pdus.pdu.EsisRefusal.{EsisRefusal}
use Rattle.pdus.specs.EsisPdus.Value.{EsisValue}
use Rattle.pdus.specs.EsisPdus.Grammar.{IsPdu, BeginsWith}
use Rattle.pdus.specs.EsisPdus.Rules.{Gives, options_part, options_place, refusal}
use Rattle.pdus.specs.EsisPdus.Reading.{value_of, rest_of}
use Rattle.pdus.specs.EsisPdus.View.{pdu_value, IsWritable}
use Rattle.pdus.proofs.EsisPdus.Options.{options_again}
use Rattle.pdus.proofs.EsisPdus.Frames.{front, header_stands, read_front, nothing_spelled}

pub found : (frame : List ℕ) (r : Result EsisPdu EsisRefusal) → IsBytes frame → octet frame 1 ≡ 0x82 → Gives r (refusal frame)
    → IfOk r (λ pdu. pdu_value pdu ≡ value_of (header_of frame)) → IfOk r (λ pdu. pdu.rest.now ≡ rest_of frame)
    → IfOk r (λ pdu. BeginsWith frame (pdu_value pdu) pdu.rest.now)
found frame (Ok pdu) bytes protocol judged value rest = read_front frame (pdu_value pdu) pdu.rest.now bytes protocol judged value rest
found frame (Err refused) bytes protocol judged value rest = tt

pub none : (frame : List ℕ) (r : Result EsisPdu EsisRefusal) → Gives r (refusal frame)
    → OnErr r ((value : EsisValue) (rest : List ℕ) → BeginsWith frame value rest → ⊥)
none frame (Ok pdu) judged = tt
none frame (Err refused) judged = nothing_spelled frame refused judged

pub writable : (frame : List ℕ) (r : Result EsisPdu EsisRefusal) → IsBytes frame → octet frame 1 ≡ 0x82 → Gives r (refusal frame)
    → IfOk r (λ pdu. pdu_value pdu ≡ value_of (header_of frame)) → IfOk r (λ pdu. pdu.options.now ≡ options_part (header_of frame))
    → IfOk r IsWritable
writable frame (Ok pdu) bytes protocol judged value options =
    let P : EsisValue → Type 0 = λ v. IsPdu v in
    let Q : List ℕ → Type 0 = λ t. t ≡ spelled (parameters t) in
    let head = header_of frame in
    record {
      fits = subst P (sym value) (front frame bytes protocol judged).spells.pdu;
      options = subst Q (sym options) (options_again (options_place head) (options_part head) (header_stands frame bytes protocol judged).accepted.fill);
    }
writable frame (Err refused) bytes protocol judged value options = tt
