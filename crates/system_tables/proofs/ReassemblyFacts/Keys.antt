-- Two keys are the same exactly where the test says so.
use Rattle.std.proofs.Common.{◌≡◌, ◌∙◌, ◌&&◌, ◌==◌, true, false, refl, sym, ap}
use Rattle.std.specs.Bool.{Decides}
use Rattle.std.specs.Str.{bytes_eq}
use Rattle.std.proofs.lemmas.Bool.Decides.{Decides-and, Decides-eqb, Decides-like, same_from_decides}
use Rattle.std.proofs.lemmas.Slice.Eq.{bytes_eq-Decides}
use Rattle.system_tables.specs.declared.reassembly.segment.Key.{Key}
use Rattle.system_tables.specs.Reassembly.Arrival.{same_key}

-- keys whose parts are the same are the same
key_of_parts : (a b : Key) → a.from ≡ b.from → a.to ≡ b.to → a.id ≡ b.id → a ≡ b
key_of_parts a b from to id = λ i. record { from = from i; to = to i; id = id i }

pub same_key-Decides : (a b : Key) → Decides (same_key a b) (a ≡ b)
same_key-Decides a b =
    Decides-like (same_key a b)
    (λ parts. key_of_parts a b parts.0 parts.1.0 parts.1.1)
    (λ e. (ap (λ (key : Key). key.from) e, (ap (λ (key : Key). key.to) e, ap (λ (key : Key). key.id) e)))
    (Decides-and (bytes_eq a.from b.from) (bytes_eq a.to b.to && (a.id == b.id)) (bytes_eq-Decides a.from b.from)
    (Decides-and (bytes_eq a.to b.to) (a.id == b.id) (bytes_eq-Decides a.to b.to) (Decides-eqb a.id b.id)))

pub same_key-true : (a b : Key) → same_key a b ≡ true → a ≡ b
same_key-true a b e = (same_key-Decides a b).0 e

pub same_key-like : (a b : Key) → a ≡ b → same_key a b ≡ true
same_key-like a b e = (same_key-Decides a b).1 e

pub same_key-sym : (a b : Key) → same_key a b ≡ same_key b a
same_key-sym a b =
    same_from_decides (same_key a b) (same_key b a) (same_key-Decides a b)
    (Decides-like (same_key b a) (λ e. sym e) (λ e. sym e) (same_key-Decides b a))

pub same_key-refl : (key : Key) → same_key key key ≡ true
same_key-refl key = same_key-like key key refl

-- what has one key hasn't another
pub same_key-other : (a key other : Key) → same_key a key ≡ true → same_key key other ≡ false → same_key a other ≡ false
same_key-other a key other t f = ap (λ k. same_key k other) (same_key-true a key t) ∙ f

pub same_key-false_sym : (a b : Key) → same_key a b ≡ false → same_key b a ≡ false
same_key-false_sym a b f = same_key-sym b a ∙ f
