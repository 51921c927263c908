-- A reportable frame has its header among its first octets.
use Rattle.std.proofs.Common.{◌≡◌, ℕ, ◌≤◌, not, true, List, Option, length, take, None, Some, refl, ap, arith}
use Rattle.std.proofs.lemmas.Bool.{and_parts}
use Rattle.std.specs.Prelude.{is_some}
use Rattle.pdus.specs.declared.clnp_options.judge.OptionRefusal.{OptionRefusal}
use Rattle.pdus.specs.PduHeader.Rules.{extent_refusal, header_of, is_reportable}
use Rattle.pdus.proofs.PduHeader.Fields.{AreOctets}
use Rattle.pdus.proofs.PduHeader.FirstOctets.{same_header}
use Rattle.pdus.proofs.PduHeader.Frames.{has_header}
use Rattle.pdus.proofs.PduHeader.Shape.{length_of_header}

-- the header lies in the frame, and is its first octets
pub record HeaderStands (frame : List ℕ) : Type 0 where
  pub first : header_of (take 254 frame) ≡ header_of frame
  pub part : take (length (header_of frame)) frame ≡ header_of frame
  pub within : length (header_of frame) ≤ length frame

none_refused : (refused : Option OptionRefusal) → not (is_some refused) ≡ true → refused ≡ None
none_refused None none = refl
none_refused (Some broken) none = cc

pub header_stands : (frame : List ℕ) → AreOctets (take 254 frame) → is_reportable frame ≡ true → HeaderStands frame
header_stands frame octets reportable =
    let none = none_refused (extent_refusal frame) (and_parts _ _ (and_parts _ _ reportable).1).0 in
    let header = has_header frame none in
    let long = length_of_header frame header in
    record {
      first = same_header frame octets none;
      part = ap (λ size. take size frame) long;
      within = omega (arith, long, header.within);
    }
