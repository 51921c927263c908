use Rattle.std.proofs.Common.{◌∙◌, sym, ap, subst, refl, arith, length-append, List, [], ℕ, ◌++◌}
use Rattle.std.specs.Prelude.{option_map}
use Rattle.pdus.specs.Fletcher.Checksum.{sealed}
use Rattle.pdus.specs.ClnpOptions.Rules.{IsWellFormed}
use Rattle.pdus.specs.PduHeader.Spelling.{counted, segmentation_octets}
use Rattle.pdus.specs.PduHeader.Parts.{parts_value}
use Rattle.pdus.specs.PduHeader.View.{part_value}
use Rattle.pdus.proofs.PduHeader.Written.{pieces_join, pieces_length, options_spelled, header_if_sealed, header_if_unsealed}
use Rattle.pdus.proofs.pdu_header.write.written.Goals as goal

pub push_segmentation-requires : goal.push_segmentation-requires
push_segmentation-requires c =
    omega (
      arith,
      c.requires.len,
      c.requires.few,
      length-append c.push_counted-2.new.self (segmentation_octets (option_map part_value c.args.parts.now.seg)),
      pieces_length (parts_value c.args.parts.now []) _ _ _ _ _ _ _ refl refl
          c.new-cells.ensures c.push_fixed.ensures.octets
          (c.push_counted.ensures ∙ ap (λ x. c.push_fixed.new.cells ++ counted x) c.as_bytes.ensures.octets)
          (c.push_counted-2.ensures ∙ ap (λ x. c.push_counted.new.self ++ counted x) c.as_bytes-2.ensures.octets)
          refl,
    )

pub push-requires : goal.push-requires
push-requires c =
    omega (
      arith,
      c.requires.len,
      pieces_length (parts_value c.args.parts.now []) _ _ _ _ _ _ _
          refl (options_spelled _ _ c.as_bytes-3.ensures.value c.as_bytes-3.ensures.well_formed)
          c.new-cells.ensures c.push_fixed.ensures.octets
          (c.push_counted.ensures ∙ ap (λ x. c.push_fixed.new.cells ++ counted x) c.as_bytes.ensures.octets)
          (c.push_counted-2.ensures ∙ ap (λ x. c.push_counted.new.self ++ counted x) c.as_bytes-2.ensures.octets)
          c.push_segmentation.ensures.octets,
    )

pub returns-then-parts-clause-value : goal.returns-then-parts-clause-value
returns-then-parts-clause-value c body e =
    c.seal.ensures
    ∙ ap sealed (pieces_join (parts_value c.args.parts.now body) c.args.head_len c.args.total _ _ _ _ _ _ _ _
    c.requires.len (sym e) c.flags.ensures (options_spelled _ _ c.as_bytes-3.ensures.value c.as_bytes-3.ensures.well_formed)
    c.new-cells.ensures c.push_fixed.ensures.octets
    (c.push_counted.ensures ∙ ap (λ x. c.push_fixed.new.cells ++ counted x) c.as_bytes.ensures.octets)
    (c.push_counted-2.ensures ∙ ap (λ x. c.push_counted.new.self ++ counted x) c.as_bytes-2.ensures.octets)
    c.push_segmentation.ensures.octets c.push.ensures)
    ∙ sym (header_if_sealed (parts_value c.args.parts.now body) c.if-parts.true)

pub returns-else-parts-clause-value : goal.returns-else-parts-clause-value
returns-else-parts-clause-value c body e =
    pieces_join (parts_value c.args.parts.now body) c.args.head_len c.args.total _ _ _ _ _ _ _ _
    c.requires.len (sym e) c.flags.ensures (options_spelled _ _ c.as_bytes-3.ensures.value c.as_bytes-3.ensures.well_formed)
    c.new-cells.ensures c.push_fixed.ensures.octets
    (c.push_counted.ensures ∙ ap (λ x. c.push_fixed.new.cells ++ counted x) c.as_bytes.ensures.octets)
    (c.push_counted-2.ensures ∙ ap (λ x. c.push_counted.new.self ++ counted x) c.as_bytes-2.ensures.octets)
    c.push_segmentation.ensures.octets c.push.ensures
    ∙ sym (header_if_unsealed (parts_value c.args.parts.now body) c.if-parts.false)

pub returns-then-parts-clause-typed : goal.returns-then-parts-clause-typed
returns-then-parts-clause-typed c = record {
  lifetime = c.push_fixed.ensures.life;
  destination = c.as_bytes.ensures.bounds;
  source = c.as_bytes-2.ensures.bounds;
  numbers = c.push_segmentation.ensures.numbers;
  options = let P : List ℕ → Type 0 = IsWellFormed in subst P c.as_bytes-3.ensures.value c.as_bytes-3.ensures.well_formed;
}

pub returns-else-parts-clause-typed : goal.returns-else-parts-clause-typed
returns-else-parts-clause-typed c = record {
  lifetime = c.push_fixed.ensures.life;
  destination = c.as_bytes.ensures.bounds;
  source = c.as_bytes-2.ensures.bounds;
  numbers = c.push_segmentation.ensures.numbers;
  options = let P : List ℕ → Type 0 = IsWellFormed in subst P c.as_bytes-3.ensures.value c.as_bytes-3.ensures.well_formed;
}
