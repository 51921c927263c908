-- The rules G14 to G20 of the options part, each with its reason and the place of the octet at fault.
-- A rule is read under the premise that all before it hold; places count the header's octets from 1.
use Rattle.std.specs.Prelude.{ℕ, zero, suc, ◌+◌, ◌-◌, Bool, true, false, not, ◌&&◌, ◌||◌, ◌==◌, nat_le, nat_lt, if◌then◌else◌, List, [], ◌∷◌, length, take, drop, slice_index, Option, Some, None, IsNone, option_map, Result, MatchResult, ◌≡◌}
use Rattle.std.specs.List.{list_any}
use Rattle.std.specs.Option.{option_or}
use Rattle.pdus.specs.ClnpOptions.Parameter.{Parameter, padding, security, source_route, recording, quality, priority, reason, known_codes, spelled, size_of, parameters}
use Rattle.pdus.specs.declared.clnp_options.judge.OptionRefusal.{OptionRefusal}
use Rattle.pdus.specs.declared.clnp_options.reasons.Reason.{Reason}
use Rattle.pdus.specs.declared.clnp_options.reasons.Reason.TheVariants.{DuplicateOption, HeaderSyntaxError, SourceRoutingSyntaxError, UnsupportedOption, UnsupportedSecurity}
use Rattle.pdus.specs.ClnpOptions.Reasons.{reason_code}

-- whether whole titles, each of 1 to 20 octets after its length octet, fill what follows the first `skipped` octets
unfoldable pub are_titles_after : ℕ → List ℕ → Bool
are_titles_after zero [] = true
are_titles_after (suc skipped) [] = false
are_titles_after zero (size ∷ rest) = nat_le 1 size && nat_le size 20 && are_titles_after size rest
are_titles_after (suc skipped) (octet ∷ rest) = are_titles_after skipped rest

abbrev pub are_titles : List ℕ → Bool
are_titles octets = are_titles_after 0 octets

-- the value of a source route or a recording begins with a kind, 0 or 1, and a pointer
abbrev pub has_kind : List ℕ → Bool
has_kind value = nat_le 2 (length value) && nat_le (slice_index value 0) 1

-- whether a pointer is at least 3, and whole titles fill the places from 3 to before it
abbrev pub is_after_titles : List ℕ → ℕ → Bool
is_after_titles value pointer = nat_le 3 pointer && are_titles (take (pointer - 3) (drop 2 value))

-- titles fill the value, and the pointer is above its length or the place of one
abbrev pub is_source_route : List ℕ → Bool
is_source_route value =
    has_kind value
    && are_titles (drop 2 value)
    && (nat_lt (length value) (slice_index value 1) || is_after_titles value (slice_index value 1))

-- the pointer is 255, or at most the length + 1 with titles before it
abbrev pub is_recording : List ℕ → Bool
is_recording value =
    has_kind value
    && (slice_index value 1 == 255
    || (nat_le (slice_index value 1) (length value + 1) && is_after_titles value (slice_index value 1)))

-- whether a value is empty, or its two high bits are the reserved format 00
abbrev pub lacks_format : List ℕ → Bool
lacks_format value = length value == 0 || nat_lt (slice_index value 0) 64

abbrev pub contains_code : List ℕ → ℕ → Bool
contains_code codes code = list_any (λ known. known == code) codes

-- the test of G16
abbrev pub is_unknown : Parameter → Bool
is_unknown option = not (contains_code known_codes option.code)

-- the test of G17
abbrev pub has_bad_security : Parameter → Bool
has_bad_security option = option.code == security && lacks_format option.value

-- the test of G18
abbrev pub has_bad_route : Parameter → Bool
has_bad_route option = option.code == source_route && not (is_source_route option.value)

-- the test of G19
abbrev pub has_bad_form : Parameter → Bool
has_bad_form option =
    (option.code == recording && not (is_recording option.value))
    || (option.code == quality && lacks_format option.value)
    || (option.code == priority && not (length option.value == 1))
    || (option.code == reason && not (length option.value == 2))

abbrev pub is_reason : Parameter → Bool
is_reason option = option.code == reason

-- the place of the first option that a test picks, where the first of all stands at `place`
unfoldable pub place_of : (Parameter → Bool) → ℕ → List Parameter → Option ℕ
place_of test place [] = None
place_of test place (option ∷ others) =
    if test option then Some place else place_of test (place + size_of option) others

-- the place of the first option that isn't padding and whose code came before, or is one of `seen`
unfoldable pub place_of_repeat : List ℕ → ℕ → List Parameter → Option ℕ
place_of_repeat seen place [] = None
place_of_repeat seen place (option ∷ others) =
    if not (option.code == padding) && contains_code seen option.code
    then Some place
    else place_of_repeat (option.code ∷ seen) (place + size_of option) others

-- the place of the first octet that is not of a whole option, where the part begins at `first`
abbrev pub place_of_unfit : ℕ → List ℕ → Option ℕ
place_of_unfit first part =
    let fitting = length (spelled (parameters part)) in
    if fitting == length part then None else Some (first + fitting)

-- the place of a reason for discard in a PDU that isn't an error report; a report that has none is at fault in octet 5
abbrev pub place_of_reason : Bool → ℕ → List Parameter → Option ℕ
place_of_reason is_report first options =
    if is_report
    then (if list_any is_reason options then None else Some 5)
    else place_of is_reason first options

-- a broken rule with its reason, at a place if there is one
abbrev pub at_rule : ℕ → Reason → Option ℕ → Option OptionRefusal
at_rule rule cause place = option_map (λ p. record { rule = rule; reason = reason_code cause; place = p }) place

-- the least of G15 to G19 that a list of options breaks, where the first option stands at `first`
unfoldable pub list_refusal : ℕ → List Parameter → Option OptionRefusal
list_refusal first options =
    option_or (at_rule 15 DuplicateOption (place_of_repeat [] first options))
    (option_or (at_rule 16 UnsupportedOption (place_of is_unknown first options))
    (option_or (at_rule 17 UnsupportedSecurity (place_of has_bad_security first options))
    (option_or (at_rule 18 SourceRoutingSyntaxError (place_of has_bad_route first options))
    (at_rule 19 HeaderSyntaxError (place_of has_bad_form first options)))))

-- the least of G14 to G19 that a part breaks
unfoldable pub form_refusal : ℕ → List ℕ → Option OptionRefusal
form_refusal first part =
    option_or (at_rule 14 HeaderSyntaxError (place_of_unfit first part)) (list_refusal first (parameters part))

-- the least of G14 to G20 that a part breaks, where its first octet has place `first` in the header
unfoldable pub refusal : List ℕ → ℕ → Bool → Option OptionRefusal
refusal part first is_report =
    option_or (form_refusal first part) (at_rule 20 HeaderSyntaxError (place_of_reason is_report first (parameters part)))

-- a list of options breaks none of G15 to G19
abbrev pub AreWellFormed : List Parameter → Type 0
AreWellFormed options = IsNone (list_refusal 1 options)

-- a part breaks none of G14 to G19: what holds of every accepted part, whatever the kind of its PDU
abbrev pub IsWellFormed : List ℕ → Type 0
IsWellFormed part = IsNone (form_refusal 1 part)

-- a part breaks none of G14 to G20
abbrev pub Accepts : Bool → List ℕ → Type 0
Accepts is_report part = IsNone (refusal part 1 is_report)

-- a result that refuses exactly where there is a refusal, and with it
abbrev pub Gives : {U : Type 0} → Result U OptionRefusal → Option OptionRefusal → Type 0
Gives result refused = MatchResult result (λ _. refused ≡ None) (λ r. refused ≡ Some r)
