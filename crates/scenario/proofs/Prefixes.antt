-- The prefixes of routes: what is read is one.
use Rattle.std.proofs.Common.{◌≡◌, ℕ, nat_le, Bool, true, false, if◌then◌else◌, List, [], length, map, Option, None, Some, Result, Ok, Err, IfOk, refl, arith}
use Rattle.std.proofs.lemmas.Bool.{leb-true}
use Rattle.std.proofs.lemmas.List.{length-map}
use Rattle.clnp_plan.specs.Nsap.Prefix.{IsPrefix, digit_value, is_star, prefix_of, prefix_or_fault}
use Rattle.clnp_plan.specs.Nsap.Text.{bad_digit, without_dots}
use Rattle.clnp_plan.specs.Pdus.declared.nsap.fault.NsapFault.{NsapFault}
use Rattle.clnp_plan.specs.Pdus.declared.nsap.fault.NsapFault.TheVariants.{TooManyDigits}
use Rattle.scenario.specs.Words.{address_read, prefix_word}
use Rattle.scenario.proofs.Behind.{either_way}
use Rattle.clnp_plan.proofs.Nsap.Digits.{values_small}

no_digits : IsPrefix []
no_digits = record { few = omega arith; small = λ i. omega arith }

spelled : (digits : List ℕ) (few : Bool) → nat_le (length digits) 40 ≡ few → IfOk (if few then Ok (map digit_value digits) else Err TooManyDigits) IsPrefix
spelled digits true few = record { few = rw (length-map digits digit_value) (leb-true (length digits) 40 few); small = values_small digits }
spelled digits false few = tt

spelled_or_fault : (place : Option ℕ) (digits : List ℕ) → IfOk (prefix_or_fault place digits) IsPrefix
spelled_or_fault (Some place) digits = tt
spelled_or_fault None digits = spelled digits (nat_le (length digits) 40) refl

read_such : (read : Result (List ℕ) NsapFault) (P : List ℕ → Type 0) → IfOk read P → IfOk (address_read read) P
read_such (Ok digits) P h = h
read_such (Err fault) P h = tt

pub prefix_formed : (word : List ℕ) → IfOk (prefix_word word) IsPrefix
prefix_formed word =
    read_such (prefix_of word) IsPrefix (either_way (is_star word) _ _ IsPrefix no_digits (spelled_or_fault (bad_digit word) (without_dots word)))
