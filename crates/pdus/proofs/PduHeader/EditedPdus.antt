-- The values of PDUs after an edit of their options.
use Rattle.std.proofs.Common.{◌≡◌, ◌∙◌, sym, ap, ℕ, List, length, arith, Some, IsSome, Ok}
use Rattle.std.specs.Result.{result_ok}
use Rattle.std.proofs.lemmas.Bool.{cond-true, and_from, le-leb}
use Rattle.pdus.specs.Nsap.Address.{IsAddress, address_of}
use Rattle.pdus.specs.ClnpOptions.Parameter.{Parameter, parameters, source_route, recording, quality}
use Rattle.pdus.specs.ClnpOptions.Grammar.{IsTitle, AreFormed, FitsKind}
use Rattle.pdus.specs.ClnpOptions.Edits.{edited, target_of, advanced, recorded, marked, HaveOneForm}
use Rattle.pdus.proofs.ClnpOptions.Kept.{length-one_form, advanced-one_form, recorded-one_form, marked-one_form, advanced-formed, recorded-formed, marked-formed, edited-kind, target_is_title}
use Rattle.pdus.specs.PduHeader.Value.{PduValue}
use Rattle.pdus.specs.PduHeader.Spelling.{header_length}
use Rattle.pdus.specs.PduHeader.Grammar.{IsPdu, is_report}
use Rattle.pdus.specs.PduHeader.Headers.{SpellsHeader, with_options}
use Rattle.pdus.proofs.PduHeader.Changed.{header_length-is}
use Rattle.pdus.proofs.PduHeader.Edited.{segment_kept}

-- options of the same lengths, that are formed and fit the kind
edited_pdu : (v : PduValue) (options : List Parameter) → IsPdu v → HaveOneForm options v.options → AreFormed options → FitsKind (is_report v.kind) options → IsPdu (with_options options v)
edited_pdu v options h one formed kind =
    let size : header_length v ≡ header_length (with_options options v) =
    omega (arith, length-one_form options v.options one, header_length-is v, header_length-is (with_options options v)) in
    record {
      lifetime = h.lifetime;
      destination = h.destination;
      source = h.source;
      segmentation = segment_kept v options v.segmentation size h.segmentation;
      options = formed;
      reason = kind;
      header_fits = rw (← size) h.header_fits;
      segment_fits = rw (← size) h.segment_fits;
    }

pub advanced_pdu : (v : PduValue) → IsPdu v → IsSome (target_of v.options) → IsPdu (with_options (edited source_route advanced v.options) v)
advanced_pdu v h target =
    edited_pdu v (edited source_route advanced v.options) h (advanced-one_form v.options) (advanced-formed v.options h.options target) (edited-kind (is_report v.kind) source_route advanced v.options h.reason)

pub recorded_pdu : (v : PduValue) (title : List ℕ) → IsPdu v → IsAddress title → IsPdu (with_options (edited recording (recorded title) v.options) v)
recorded_pdu v title h it =
    edited_pdu v (edited recording (recorded title) v.options) h (recorded-one_form v.options title h.options) (recorded-formed v.options title h.options (it.some, it.few)) (edited-kind (is_report v.kind) recording (recorded title) v.options h.reason)

pub marked_pdu : (v : PduValue) → IsPdu v → IsPdu (with_options (edited quality marked v.options) v)
marked_pdu v h =
    edited_pdu v (edited quality marked v.options) h (marked-one_form v.options) (marked-formed v.options h.options) (edited-kind (is_report v.kind) quality marked v.options h.reason)

-- ---- the title to which a source route leads

pub address_of-title : (title : List ℕ) → IsTitle title → address_of title ≡ Ok title
address_of-title title it = cond-true _ _ _ (and_from _ _ (le-leb 1 (length title) it.0) (le-leb (length title) 20 it.1))

pub target_found : (v : PduValue) (octets part title : List ℕ) → SpellsHeader v octets → parameters part ≡ v.options → Some title ≡ target_of (parameters part) → result_ok (address_of title) ≡ target_of v.options
target_found v octets part title h options found =
    let is : target_of v.options ≡ Some title = sym (found ∙ ap target_of options) in
    ap result_ok (address_of-title title (target_is_title v.options title h.pdu.options is)) ∙ sym is
