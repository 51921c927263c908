-- A prefix as it is written is a word, which is read as this prefix.
use Rattle.std.proofs.Common.{◌≡◌, ℕ, suc, ◌<◌, List, [], ◌∷◌, map, slice_index, codes, Ok, refl, ap, arith}
use Rattle.std.specs.List.{AllByRecursion}
use Rattle.clnp_plan.specs.Nsap.Prefix.{IsPrefix, prefix_text}
use Rattle.pdus.proofs.NsapFacts.PrefixTexts.{prefix_of-prefix_text, shown}
use Rattle.scenario.specs.Words.{address_read, prefix_word}
use Rattle.scenario.proofs.ScenarioWriting.Written.{IsPlain, IsWord, digit_plain, spelled}

pub prefix_read : (digits : List ℕ) → IsPrefix digits → prefix_word (prefix_text digits) ≡ Ok digits
prefix_read digits is = ap address_read (prefix_of-prefix_text digits is)

shown_plain : (digits : List ℕ) → ((i : ℕ) → slice_index digits i < 16) → AllByRecursion IsPlain (map shown digits)
shown_plain [] small = tt
shown_plain (digit ∷ digits) small = (digit_plain digit (small 0), shown_plain digits (λ k. small (suc k)))

pub prefix_is_word : (digits : List ℕ) → IsPrefix digits → IsWord (prefix_text digits)
prefix_is_word [] is = spelled (codes "*") refl
prefix_is_word (digit ∷ digits) is = record { some = omega arith; plain = shown_plain (digit ∷ digits) is.small }
