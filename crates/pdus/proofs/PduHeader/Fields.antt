-- Fields at places of a header: what stands at a place, where the octets from there on are known, and the other way round.
use Rattle.std.proofs.Common.{◌≡◌, ℕ, ◌+◌, ◌-◌, ◌*◌, ◌^◌, ◌<◌, ◌≤◌, List, ◌∷◌, ◌++◌, length, take, drop, get_or, refl, sym, ◌∙◌, ap, arith, add-zero, take-append-drop, length-append, length-drop, length-take-le, get_or-drop}
use Rattle.std.proofs.lemmas.List.{drop-drop, drop_more, take_at, drop_at}
use Rattle.pdus.specs.PduHeader.Spelling.{counted, pair_of}
use Rattle.pdus.specs.PduHeader.Rules.{octet, pair_at}
use Rattle.pdus.specs.PduHeader.Reading.{address_at}
use Rattle.pdus.proofs.PduHeader.Shape.{pair_again, pair_of_octets}
pub use Rattle.pdus.proofs.ClnpOptions.Agree.{accepted_anywhere, accepts_from, forms_of, parameters-Forms, spells_of, well_formed_from}
use Rattle.clnp_base.proofs.ListSteps.{drop_next}

-- each is an octet
abbrev pub AreOctets : List ℕ → Type 0
AreOctets xs = (i : ℕ) → get_or xs i 0 < 256

pub octet_here : (head : List ℕ) (i n : ℕ) (rest : List ℕ) → drop i head ≡ n ∷ rest → get_or head i 0 ≡ n
octet_here head i n rest e =
    ap (λ k. get_or head k 0) (sym (add-zero i)) ∙ sym (get_or-drop i head 0 0) ∙ ap (λ xs. get_or xs 0 0) e

pub within_here : (head : List ℕ) (i n : ℕ) (rest : List ℕ) → drop i head ≡ n ∷ rest → i + 1 + length rest ≡ length head
within_here head i n rest e = omega (arith, length-drop i head, ap length e)

-- an address stands at a place, and these octets follow it
pub record HasAddress (head : List ℕ) (place : ℕ) (address rest : List ℕ) : Type 0 where
  pub size : octet head place ≡ length address
  pub octets : address_at head place ≡ address
  pub behind : drop (place + length address) head ≡ rest
  pub within : place + length address ≤ length head

pub address_here : (head : List ℕ) (i place : ℕ) (a rest : List ℕ) → place ≡ i + 1 → drop i head ≡ counted a ++ rest
    → HasAddress head place a rest
address_here head i place a rest at e =
    let here : place - 1 ≡ i = omega arith in
    let size : octet head place ≡ length a = ap (λ k. get_or head k 0) here ∙ octet_here head i (length a) (a ++ rest) e in
    let from : drop place head ≡ a ++ rest = ap (λ k. drop k head) at ∙ drop_next i head (length a) (a ++ rest) e in
    record {
      size = size;
      octets = ap (λ k. take k (drop place head)) size ∙ ap (λ xs. take (length a) xs) from ∙ take_at a rest (length a) refl;
      behind = sym (drop-drop (length a) place head) ∙ ap (λ xs. drop (length a) xs) from ∙ drop_at a rest (length a) refl;
      within = omega (arith, within_here head i (length a) (a ++ rest) e, length-append a rest);
    }

-- a number of two octets stands at a place, and these octets follow it
pub record HasPair (head : List ℕ) (place n : ℕ) (rest : List ℕ) : Type 0 where
  pub number : pair_at head place ≡ n
  pub behind : drop (place + 1) head ≡ rest
  pub within : place + 1 + length rest ≡ length head

pub pair_here : (head : List ℕ) (i place n : ℕ) (rest : List ℕ) → place ≡ i + 1 → n < 2 ^ 16 → drop i head ≡ pair_of n ++ rest
    → HasPair head place n rest
pair_here head i place n rest at fits e =
    let high = get_or (pair_of n) 0 0 in
    let low = get_or (pair_of n) 1 0 in
    let here : place - 1 ≡ i = omega arith in
    let next : place + 1 - 1 ≡ i + 1 = omega arith in
    let at_high : octet head place ≡ high = ap (λ k. get_or head k 0) here ∙ octet_here head i high (low ∷ rest) e in
    let from : drop (i + 1) head ≡ low ∷ rest = drop_next i head high (low ∷ rest) e in
    let at_low : octet head (place + 1) ≡ low = ap (λ k. get_or head k 0) next ∙ octet_here head (i + 1) low rest from in
    record {
      number = ap (λ k. 256 * k + octet head (place + 1)) at_high ∙ ap (λ k. 256 * high + k) at_low ∙ pair_again high low n fits refl;
      behind = ap (λ k. drop (k + 1) head) at ∙ drop_next (i + 1) head low rest from;
      within = omega (arith, within_here head (i + 1) low rest from);
    }

-- the address at a place, counted, is what stands there
pub address_split : (head : List ℕ) (i place : ℕ) → place ≡ i + 1 → place ≤ length head → place + octet head place ≤ length head
    → (drop i head ≡ counted (address_at head place) ++ drop (place + octet head place) head) × (length (address_at head place) ≡ octet head place)
address_split head i place at low high =
    let here : get_or head i 0 ≡ octet head place = ap (λ k. get_or head k 0) (omega arith) in
    let size : length (address_at head place) ≡ octet head place = length-take-le (octet head place) (drop place head) (omega (arith, length-drop place head)) in
    let parts : drop place head ≡ address_at head place ++ drop (place + octet head place) head =
    sym (take-append-drop (octet head place) (drop place head)) ∙ ap (λ xs. address_at head place ++ xs) (drop-drop (octet head place) place head) in (
      drop_more head i 0 (omega arith)
          ∙ ap (λ k. get_or head i 0 ∷ drop k head) (sym at)
          ∙ ap (λ k. k ∷ drop place head) (here ∙ sym size)
          ∙ ap (λ xs. length (address_at head place) ∷ xs) parts,
      size,
    )

pub pair_split : (head : List ℕ) (i place : ℕ) → AreOctets head → place ≡ i + 1 → place + 1 ≤ length head
    → drop i head ≡ pair_of (pair_at head place) ++ drop (place + 1) head
pair_split head i place bytes at within =
    let here : get_or head i 0 ≡ octet head place = ap (λ k. get_or head k 0) (omega arith) in
    let next : get_or head place 0 ≡ octet head (place + 1) = ap (λ k. get_or head k 0) (omega arith) in
    drop_more head i 0 (omega arith)
    ∙ ap (λ k. get_or head i 0 ∷ drop k head) (sym at)
    ∙ ap (λ k. k ∷ drop place head) here
    ∙ ap (λ xs. octet head place ∷ xs) (drop_more head place 0 (omega arith) ∙ ap (λ k. k ∷ drop (place + 1) head) next)
    ∙ ap (λ xs. xs ++ drop (place + 1) head) (sym (pair_of_octets (octet head place) (octet head (place + 1)) (bytes (place - 1)) (bytes (place + 1 - 1))))
