-- What holds of a header that breaks no rule, rule by rule.
use Rattle.std.proofs.Common.{◌≡◌, ◌≢◌, ℕ, ◌+◌, ◌-◌, ◌≤◌, ◌==◌, ◌&&◌, not, Bool, true, false, List, length, None, is_some, refl, arith}
use Rattle.std.specs.Prelude.{nat_lt, ◌↔◌}
use Rattle.std.proofs.lemmas.Bool.{not-false, not_from_true}
use Rattle.std.proofs.lemmas.Bool.Decides.{nat_tests}
use Rattle.clnp_base.proofs.Choices.{below_not, equal_is, if_none, is_equal, none_if, not_below, option_or-none, option_or-parts}
use Rattle.pdus.specs.ClnpOptions.Rules.{refusal as options_refusal}
use Rattle.pdus.specs.PduHeader.Rules.{octet, type_of, kind_of, is_segmented, has_more, has_right_checksum, source_place, part_place, options_place, segment_size, is_bad_address, is_unfit_range, is_bad_range, options_part, fixed_part_refusal, addresses_refusal, lengths_refusal, header_refusal}

-- a header breaks no rule in a frame of n octets
pub record IsAccepted (head : List ℕ) (n : ℕ) : Type 0 where
  pub version : octet head 3 ≡ 1
  pub checksum : has_right_checksum head ≡ true
  pub kind : is_some (kind_of (type_of head)) ≡ true
  pub flags : (has_more head && not (is_segmented head)) ≡ false
  pub destination : is_bad_address head 10 ≡ false
  pub source : is_bad_address head (source_place head) ≡ false
  pub part : (is_segmented head && nat_lt (length head) (part_place head + 5)) ≡ false
  pub low : length head ≤ segment_size head
  pub high : segment_size head ≤ n
  pub range : (is_segmented head && is_bad_range head) ≡ false
  pub options : options_refusal (options_part head) (options_place head) (type_of head == 1) ≡ None

pub accepted : (head : List ℕ) (n : ℕ) → header_refusal head n ≡ None → IsAccepted head n
unfolding header_refusal fixed_part_refusal addresses_refusal lengths_refusal
accepted head n h =
    let fixed = option_or-parts _ _ h in
    let addresses = option_or-parts _ _ fixed.1 in
    let lengths = option_or-parts _ _ addresses.1 in
    let g4 = if_none _ _ _ fixed.0 in
    let g5 = if_none _ _ _ g4.1 in
    let g6 = if_none _ _ _ g5.1 in
    let g7 = if_none _ _ _ g6.1 in
    let g8 = if_none _ _ _ addresses.0 in
    let g9 = if_none _ _ _ g8.1 in
    let g10 = if_none _ _ _ lengths.0 in
    let g11 = if_none _ _ _ g10.1 in
    let g12 = if_none _ _ _ g11.1 in
    let g13 = if_none _ _ _ g12.1 in
    record {
      version = is_equal _ _ (not-false _ g4.0);
      checksum = not-false _ g5.0;
      kind = not-false _ g6.0;
      flags = g7.0;
      destination = g8.0;
      source = g9.0;
      part = g10.0;
      low = not_below _ _ g11.0;
      high = not_below _ _ g12.0;
      range = g13.0;
      options = lengths.1;
    }

pub accepting : (head : List ℕ) (n : ℕ) → IsAccepted head n → header_refusal head n ≡ None
unfolding header_refusal fixed_part_refusal addresses_refusal lengths_refusal
accepting head n h =
    option_or-none _ _ None
    (none_if _ _ _ (not_from_true _ (equal_is _ _ h.version)) (none_if _ _ _ (not_from_true _ h.checksum) (none_if _ _ _ (not_from_true _ h.kind) (none_if _ _ _ h.flags refl))))
    (option_or-none _ _ None
    (none_if _ _ _ h.destination (none_if _ _ _ h.source refl))
    (option_or-none _ _ None
    (none_if _ _ _ h.part (none_if _ _ _ (below_not _ _ h.low) (none_if _ _ _ (below_not _ _ h.high) (none_if _ _ _ h.range refl))))
    h.options))

-- an address lies in the header
pub record IsWithin (head : List ℕ) (place : ℕ) : Type 0 where
  pub start : place ≤ length head
  pub some : 1 ≤ octet head place
  pub few : octet head place ≤ 20
  pub end : place + octet head place ≤ length head

pub within : (head : List ℕ) (place : ℕ) → is_bad_address head place ≡ false → IsWithin head place
within head place h = record {
  start = grind (arith, nat_tests);
  some = grind (arith, nat_tests);
  few = grind (arith, nat_tests);
  end = grind (arith, nat_tests);
}

pub within_is : (head : List ℕ) (place : ℕ) → IsWithin head place → is_bad_address head place ≡ false
within_is head place h =
    let start : place ≤ length head = h.start in
    let some : 1 ≤ octet head place = h.some in
    let few : octet head place ≤ 20 = h.few in
    let end : place + octet head place ≤ length head = h.end in
    grind (arith, nat_tests)

-- the data's range fits its unit
pub record IsGoodRange (length_of_head total data_end : ℕ) (more : Bool) : Type 0 where
  pub holds_header : length_of_head ≤ total
  pub within : data_end ≤ total - length_of_head
  pub ends : (more ≡ false) ↔ (data_end ≡ total - length_of_head)

pub good_range : (size total data_end : ℕ) (more : Bool) → is_unfit_range size total data_end more ≡ false → IsGoodRange size total data_end more
good_range size total data_end true h = record {
  holds_header = grind (arith, nat_tests);
  within = grind (arith, nat_tests);
  ends = ((λ e. cc), (λ e. grind (arith, nat_tests)));
}
good_range size total data_end false h = record {
  holds_header = grind (arith, nat_tests);
  within = grind (arith, nat_tests);
  ends = ((λ e. grind (arith, nat_tests)), (λ e. refl));
}

pub range_is_good : (size total data_end : ℕ) (more : Bool) → IsGoodRange size total data_end more → is_unfit_range size total data_end more ≡ false
range_is_good size total data_end true h =
    let differ : data_end ≢ total - size = λ e. let wrong = h.ends.1 e in cc in
    let holds : size ≤ total = h.holds_header in
    let fits : data_end ≤ total - size = h.within in
    grind (arith, nat_tests)
range_is_good size total data_end false h =
    let same : data_end ≡ total - size = h.ends.0 refl in
    let holds : size ≤ total = h.holds_header in
    grind (arith, nat_tests)
