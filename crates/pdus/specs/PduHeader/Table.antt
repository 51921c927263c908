-- The rules G1 to G20 as a table: of each rule the reason for discard that it gives, and the place that it puts at fault
-- where a frame breaks it. Each rule is a line of its own, and is read under the premise that all before it hold.
use Rattle.std.specs.Prelude.{◌≡◌, ℕ, ◌+◌, ◌-◌, ◌==◌, ◌&&◌, ◌||◌, not, nat_lt, ◌<◌, ◌≤◌, Bool, if◌then◌else◌, List, [], ◌∷◌, length, Option, None, Some, is_some}
use Rattle.std.specs.List.{AllByRecursion, slice_index_or}
use Rattle.pdus.specs.declared.clnp_options.judge.OptionRefusal.{OptionRefusal}
use Rattle.pdus.specs.declared.clnp_options.reasons.Reason.{Reason}
use Rattle.pdus.specs.declared.clnp_options.reasons.Reason.TheVariants.{DuplicateOption, HeaderSyntaxError, IncompletePdu, IncorrectChecksum, SourceRoutingSyntaxError, UnsupportedOption, UnsupportedSecurity, UnsupportedVersion}
use Rattle.pdus.specs.ClnpOptions.Reasons.{reason_code}
use Rattle.pdus.specs.ClnpOptions.Parameter.{parameters}
use Rattle.pdus.specs.ClnpOptions.Rules.{place_of, place_of_reason, place_of_repeat, place_of_unfit, has_bad_form, has_bad_route, has_bad_security, is_unknown}
use Rattle.pdus.specs.PduHeader.Layout.{version, fixed_size, type_code}
use Rattle.pdus.specs.declared.pdu_header.kind.Kind.TheVariants.{Er}
use Rattle.pdus.specs.PduHeader.Rules.{octet, header_of, header_size, has_more, has_right_checksum, is_bad_address, is_bad_range, is_segmented, kind_of, options_part, options_place, part_place, segment_size, source_place, type_of}

-- a rule as it judges one frame
pub record Rule : Type 0 where
  pub reason : ℕ
  pub broken_at : Option ℕ

-- a rule with a test, and the place at fault
abbrev pub tests : Reason → Bool → ℕ → Rule
tests cause is_broken place = record { reason = reason_code cause; broken_at = if is_broken then Some place else None }

-- a rule that finds the place at fault
abbrev pub finds : Reason → Option ℕ → Rule
finds cause place = record { reason = reason_code cause; broken_at = place }

-- all rules, in their order
unfoldable pub table : List ℕ → List Rule
table frame =
    let head = header_of frame in
    let first = options_place head in
    let part = options_part head in
    tests IncompletePdu (nat_lt (length frame) fixed_size) 0
    ∷ tests HeaderSyntaxError (nat_lt (header_size frame) fixed_size || header_size frame == 255) 2
    ∷ tests IncompletePdu (nat_lt (length frame) (header_size frame)) 2
    ∷ tests UnsupportedVersion (not (octet head 3 == version)) 3
    ∷ tests IncorrectChecksum (not (has_right_checksum head)) 0
    ∷ tests HeaderSyntaxError (not (is_some (kind_of (type_of head)))) 5
    ∷ tests HeaderSyntaxError (has_more head && not (is_segmented head)) 5
    ∷ tests HeaderSyntaxError (is_bad_address head 10) 10
    ∷ tests HeaderSyntaxError (is_bad_address head (source_place head)) (source_place head)
    ∷ tests HeaderSyntaxError (is_segmented head && nat_lt (length head) (part_place head + 5)) (part_place head)
    ∷ tests HeaderSyntaxError (nat_lt (segment_size head) (length head)) 6
    ∷ tests IncompletePdu (nat_lt (length frame) (segment_size head)) 6
    ∷ tests HeaderSyntaxError (is_segmented head && is_bad_range head) (part_place head + 4)
    ∷ finds HeaderSyntaxError (place_of_unfit first part)
    ∷ finds DuplicateOption (place_of_repeat [] first (parameters part))
    ∷ finds UnsupportedOption (place_of is_unknown first (parameters part))
    ∷ finds UnsupportedSecurity (place_of has_bad_security first (parameters part))
    ∷ finds SourceRoutingSyntaxError (place_of has_bad_route first (parameters part))
    ∷ finds HeaderSyntaxError (place_of has_bad_form first (parameters part))
    ∷ finds HeaderSyntaxError (place_of_reason (type_of head == type_code Er) first (parameters part))
    ∷ []

-- the rule with a number, from 1
abbrev pub nth_rule : List Rule → ℕ → Rule
nth_rule rules number = slice_index_or rules (number - 1) (record { reason = 0; broken_at = None })

-- what is told is a rule that is broken, with its reason and place, and no rule before it is broken
pub record IsLeastBroken (rules : List Rule) (told : OptionRefusal) : Type 0 where
  pub first : 1 ≤ told.rule
  pub last : told.rule ≤ length rules
  pub reason : (nth_rule rules told.rule).reason ≡ told.reason
  pub place : (nth_rule rules told.rule).broken_at ≡ Some told.place
  pub least : (number : ℕ) → 1 ≤ number → number < told.rule → (nth_rule rules number).broken_at ≡ None

-- no rule is broken
abbrev pub AreKept : List Rule → Type 0
AreKept rules = AllByRecursion (λ rule. rule.broken_at ≡ None) rules
