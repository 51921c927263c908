-- What is written of octets and numbers is read as these.
use Rattle.std.proofs.Common.{◌≡◌, ℕ, ◌/◌, ◌^◌, ◌<◌, ◌≤◌, Bool, if◌then◌else◌, List, [], ◌∷◌, ◌++◌, length, take, drop, codes, Option, Some, None, Result, ap, ◌∙◌, append_assoc, arith}
use Rattle.std.specs.Prelude.{nat_lt, option_map, option_and_then}
use Rattle.std.specs.Fmt.{decimal}
use Rattle.std.proofs.lemmas.Bool.{le-leb}
use Rattle.hex.specs.Hex.{IsBytes, encode_with, lower_digits}
use Rattle.hex.specs.declared.error.FromHexError.{FromHexError}
use Rattle.hex.proofs.HexLemmas.{decode_of-encode_lower, length-encode_with}
use Rattle.pdus.specs.Nsap.Text.{hex_text}
use Rattle.pdus.proofs.ClnpBase.Choices.{below_not}
use Rattle.pdus.specs.ClnpOptions.Parameter.{Parameter, spelling}
use Rattle.pdus.specs.PduHeader.Spelling.{pair_of, counted}
use Rattle.captures.specs.Words.{octet_word}
use Rattle.captures.specs.CaptureText.Said.{octets_in, with_octets, with_counted, with_option, with_number, within_pair, number_in}
use Rattle.pdus.proofs.ClnpBase.PlainWords.{decimal_read}
use Rattle.captures.proofs.CaptureText.Bytes.{one_byte}

pub octets_read : (front octets : List ℕ) → IsBytes octets → with_octets front (hex_text octets) ≡ Some (front ++ octets)
octets_read front octets bytes =
    ap (λ (r : Result (List ℕ) FromHexError). option_map (λ (xs : List ℕ). front ++ xs) (octets_in r)) (decode_of-encode_lower octets bytes)

-- two digits an octet
pub half : (octets : List ℕ) → length (hex_text octets) / 2 ≡ length octets
half octets = omega (arith, length-encode_with lower_digits octets)

pub counted_read : (front octets : List ℕ) → IsBytes octets → length octets < 256
    → with_counted front (hex_text octets) ≡ Some (front ++ counted octets)
counted_read front octets bytes few =
    ap (λ (n : ℕ). if nat_lt 255 n then None else with_octets (front ++ n ∷ []) (hex_text octets)) (half octets)
    ∙ ap (λ (b : Bool). if b then None else with_octets (front ++ length octets ∷ []) (hex_text octets)) (below_not 255 (length octets) (omega arith))
    ∙ octets_read (front ++ length octets ∷ []) octets bytes
    ∙ ap (λ (t : List ℕ). Some t) (append_assoc front (length octets ∷ []) octets)

pub option_read : (front : List ℕ) (option : Parameter) → option.code < 256 → IsBytes option.value → length option.value < 256
    → with_option front (octet_word option.code ++ (codes ":" ++ hex_text option.value)) ≡ Some (front ++ spelling option)
unfolding encode_with
option_read front option small bytes few =
    let text : List ℕ = octet_word option.code ++ (codes ":" ++ hex_text option.value) in
    let long : 3 ≤ length text = omega arith in
    ap (λ (b : Bool). if b then None else option_and_then (λ (coded : List ℕ). with_counted coded (drop 3 text)) (with_octets front (take 2 text))) (below_not (length text) 3 long)
    ∙ ap (λ (o : Option (List ℕ)). option_and_then (λ (coded : List ℕ). with_counted coded (hex_text option.value)) o) (octets_read front (option.code ∷ []) (one_byte option.code small))
    ∙ counted_read (front ++ option.code ∷ []) option.value bytes few
    ∙ ap (λ (t : List ℕ). Some t) (append_assoc front (option.code ∷ []) (counted option.value))

pub number_read : (n : ℕ) → n < 2 ^ 16 → number_in (decimal n) ≡ Some n
number_read n small =
    ap within_pair (decimal_read n (omega arith))
    ∙ ap (λ (b : Bool). if b then Some n else None) (le-leb n 65535 (omega arith))

pub number_put : (front : List ℕ) (n : ℕ) → n < 2 ^ 16 → with_number front (decimal n) ≡ Some (front ++ pair_of n)
number_put front n small = ap (λ (o : Option ℕ). option_map (λ (m : ℕ). front ++ pair_of m) o) (number_read n small)
