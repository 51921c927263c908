-- The rules E1 to E12 of a frame that begins with 0x82, each with the place of the octet at fault. A rule is read
-- under the premise that all before it hold; places count from 1, and 0 is no place. From E4 on a rule reads the
-- header, the frame's first octets up to its length indicator (ISO 9542, section 7).
use Rattle.std.specs.Prelude.{ℕ, ◌+◌, ◌-◌, ◌==◌, ◌&&◌, ◌||◌, not, nat_lt, Bool, false, if◌then◌else◌, List, [], ◌∷◌, length, drop, Option, None, Some, option_map, Result, MatchResult, ◌≡◌}
use Rattle.std.specs.Option.{option_or}
use Rattle.pdus.specs.Fletcher.Checksum.{octet}
use Rattle.pdus.specs.ClnpOptions.Parameter.{parameters}
use Rattle.pdus.specs.ClnpOptions.Rules.{place_of_unfit}
use Rattle.pdus.specs.PduHeader.Rules.{header_size, header_of, has_right_checksum}
use Rattle.pdus.specs.declared.esis_pdus.pdu.EsisRefusal.{EsisRefusal}
use Rattle.pdus.specs.declared.esis_pdus.pdu.EsisRefusal.TheVariants.{NotEsis, Broken}
use Rattle.pdus.specs.EsisPdus.Fields.{is_field, behind, is_address_list, behind_address_list}
use Rattle.pdus.specs.EsisPdus.Timer.{place_of_wrong_timer}

-- a rule: its number, and the place at which octets break it, where they do
pub record Rule : Type 0 where
  pub number : ℕ
  pub broken_at : List ℕ → Option ℕ

-- a rule that is broken at one place, where a test says so
abbrev pub rule : ℕ → ℕ → (List ℕ → Bool) → Rule
rule number place test = record { number = number; broken_at = λ octets. if test octets then Some place else None }

-- the octets behind the fixed part
abbrev pub variable_part : List ℕ → List ℕ
variable_part head = drop 9 head

-- the type of an end system hello, an intermediate system hello, a redirect; the three bits above it are 0
abbrev pub is_esh : List ℕ → Bool
is_esh head = octet head 5 == 2

abbrev pub is_ish : List ℕ → Bool
is_ish head = octet head 5 == 4

abbrev pub is_rd : List ℕ → Bool
is_rd head = octet head 5 == 6

-- destination, subnetwork address, and a title that may have no octet
abbrev pub is_redirection : List ℕ → Bool
is_redirection part = is_field 1 part && (is_field 1 (behind part) && is_field 0 (behind (behind part)))

-- what follows the addresses: the octets of the options part
abbrev pub options_part : List ℕ → List ℕ
options_part head =
    if is_esh head then behind_address_list (variable_part head)
    else (if is_ish head then behind (variable_part head) else behind (behind (behind (variable_part head))))

-- where the options begin
abbrev pub options_place : List ℕ → ℕ
options_place head = length head - length (options_part head) + 1

-- the rules of a frame, before its header can be read
abbrev pub frame_rules : List Rule
frame_rules =
    rule 1 0 (λ frame. nat_lt (length frame) 9)
    ∷ rule 2 2 (λ frame. nat_lt (header_size frame) 9 || header_size frame == 255)
    ∷ rule 3 2 (λ frame. nat_lt (length frame) (header_size frame))
    ∷ []

-- the rules of the fixed part: version, reserved octet, reserved bits and type, checksum (section 7.2)
abbrev pub fixed_part_rules : List Rule
fixed_part_rules =
    rule 4 3 (λ head. not (octet head 3 == 1))
    ∷ rule 5 4 (λ head. not (octet head 4 == 0))
    ∷ rule 6 5 (λ head. not (is_esh head || (is_ish head || is_rd head)))
    ∷ rule 7 8 (λ head. not (has_right_checksum head))
    ∷ []

-- the rules of the address parts (sections 7.3, 7.4, 7.6 to 7.8)
abbrev pub address_rules : List Rule
address_rules =
    rule 8 10 (λ head. is_esh head && not (is_address_list (variable_part head)))
    ∷ rule 9 10 (λ head. is_ish head && not (is_field 1 (variable_part head)))
    ∷ rule 10 10 (λ head. is_rd head && not (is_redirection (variable_part head)))
    ∷ []

-- the rules of the options part (section 7.5): whole options fill it; in an intermediate system hello the timer stands
-- once, and is two octets
abbrev pub option_rules : List Rule
option_rules =
    record { number = 11; broken_at = λ head. place_of_unfit (options_place head) (options_part head) }
    ∷ record {
      number = 12;
      broken_at = λ head. if is_ish head then place_of_wrong_timer false (options_place head) (parameters (options_part head)) else None;
    }
    ∷ []

-- the first rule of a table that these octets break, and its place
unfoldable pub first_broken : List Rule → List ℕ → Option EsisRefusal
first_broken [] octets = None
first_broken (rule ∷ others) octets = option_or (option_map (Broken rule.number) (rule.broken_at octets)) (first_broken others octets)

-- the least of E4 to E12 that a header breaks
unfoldable pub header_refusal : List ℕ → Option EsisRefusal
header_refusal head =
    option_or (first_broken fixed_part_rules head) (option_or (first_broken address_rules head) (first_broken option_rules head))

-- the least of E1 to E12 that a frame breaks
unfoldable pub refusal : List ℕ → Option EsisRefusal
refusal frame = option_or (first_broken frame_rules frame) (header_refusal (header_of frame))

-- Why a frame is refused: it doesn't begin with 0x82, or it breaks a rule.
abbrev pub why_refused : List ℕ → Option EsisRefusal
why_refused frame = if octet frame 1 == 0x82 then refusal frame else Some NotEsis

-- a result that refuses exactly where there is a refusal, and with it
abbrev pub Gives : {U : Type 0} → Result U EsisRefusal → Option EsisRefusal → Type 0
Gives result refused = MatchResult result (λ _. refused ≡ None) (λ r. refused ≡ Some r)
