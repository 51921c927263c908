-- Where the options of a header stand.
use Rattle.std.proofs.Common.{◌≡◌, ℕ, ◌+◌, ◌-◌, ◌≤◌, List, length, drop, arith, length-drop}
use Rattle.pdus.specs.Fletcher.Checksum.{octet}
use Rattle.pdus.specs.EsisPdus.Fields.{behind}
use Rattle.pdus.specs.EsisPdus.Rules.{variable_part, is_esh, is_ish, options_part}
use Rattle.pdus.proofs.EsisPdus.FieldFacts.{length_behind, length_behind_addresses}
use Rattle.clnp_base.proofs.Choices.{one_of}

-- the options stand behind the fixed part
pub options_behind : (head : List ℕ) → 9 ≤ length head → 9 + length (options_part head) ≤ length head
options_behind head long =
    let part = variable_part head in
    let size : length part ≡ length head - 9 = length-drop 9 head in
    let h : length (options_part head) ≤ length part =
    one_of (λ left. length left ≤ length part) (is_esh head) _ _
    (omega (arith, length_behind_addresses (octet part 1) (drop 1 part), length-drop 1 part))
    (one_of (λ left. length left ≤ length part) (is_ish head) _ _ (length_behind part)
    (omega (arith, length_behind part, length_behind (behind part), length_behind (behind (behind part))))) in
    omega arith
