-- How long echo replies are.
use Rattle.std.proofs.Common.{◌≡◌, ℕ, ◌+◌, ◌≤◌, nat_lt, false, List, [], ◌++◌, length, length-append, Option, Some, None, ap, arith, ◌↔◌}
use Rattle.std.proofs.lemmas.Bool.Decides.{nat_tests}
use Rattle.pdus.specs.ClnpOptions.Parameter.{Parameter, spelled}
use Rattle.pdus.specs.PduHeader.Parts.{too_long}
use Rattle.pdus.specs.PduHeader.Spelling.{counted, segmentation_octets}
use Rattle.pdus.specs.PduHeader.Value.{SegmentationPart}
use Rattle.pdus.specs.MadePdus.Reply.{plain_length}

abbrev pub head_len : (destination source : List ℕ) → Option SegmentationPart → List Parameter → ℕ
head_len destination source part options = 9 + length (counted destination ++ (counted source ++ (segmentation_octets part ++ spelled options)))

no_options : (options : List Parameter) → options ≡ [] → length (spelled options) ≡ 0
unfolding spelled
no_options options none = ap (λ os. length (spelled os)) none

part_size : (part : Option SegmentationPart) → length (segmentation_octets part) ≤ 6
part_size None = omega arith
part_size (Some part) = omega arith

pub head_is : (destination source : List ℕ) (part : Option SegmentationPart) (options : List Parameter) → options ≡ []
    → head_len destination source part options ≡ plain_length source destination + length (segmentation_octets part)
head_is destination source part options none =
    omega (
      arith,
      no_options options none,
      length-append destination (counted source ++ (segmentation_octets part ++ spelled options)),
      length-append source (segmentation_octets part ++ spelled options),
      length-append (segmentation_octets part) (spelled options),
      length-append destination (counted source),
    )

lengths_fit : (head body : ℕ) → head ≤ 57 → body ≤ 64512 → too_long head body ≡ None
lengths_fit head body head_few body_few = grind (arith, nat_tests)

pub short : (destination source : List ℕ) (part : Option SegmentationPart) (options : List Parameter) (body_len : ℕ) → options ≡ []
    → plain_length source destination ≤ 51 → body_len ≤ 64512
    → too_long (9 + length (counted destination ++ (counted source ++ (segmentation_octets part ++ spelled options)))) body_len ≡ None
short destination source part options body_len none few body_few =
    lengths_fit _ body_len (omega (arith, head_is destination source part options none, part_size part)) body_few

pub decided : (n m : ℕ) → n ≡ m → (nat_lt 512 n ≡ false) ↔ (m ≤ 512)
decided n m e = grind (arith, nat_tests)
