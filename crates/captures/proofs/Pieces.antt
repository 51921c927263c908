-- Pieces that were appended one after another.
use Rattle.std.proofs.Common.{◌≡◌, ℕ, List, ◌++◌, Result, Ok, Err, OnOk, ap, ◌∙◌, append_assoc}

pub three : {T E : Type 0} (r : Result T E) (old one two now : List ℕ) (a b d : List ℕ)
    → one ≡ old ++ a → two ≡ one ++ b → OnOk r (now ≡ two ++ d) → OnOk r (now ≡ old ++ (a ++ (b ++ d)))
three (Ok x) old one two now a b d first second third =
    third ∙ ap (λ t. t ++ d) (second ∙ ap (λ t. t ++ b) first) ∙ append_assoc (old ++ a) b d ∙ append_assoc old a (b ++ d)
three (Err e) old one two now a b d first second third = third

-- a piece, and what was appended behind it
pub behind : {T E : Type 0} (r : Result T E) (old one now piece rest : List ℕ) → one ≡ old ++ piece → OnOk r (now ≡ one ++ rest)
    → OnOk r (now ≡ old ++ (piece ++ rest))
behind (Ok x) old one now piece rest first second = second ∙ ap (λ t. t ++ rest) first ∙ append_assoc old piece rest
behind (Err e) old one now piece rest first second = tt

-- a label and a value, and what was appended behind them
pub behind_field : {T E : Type 0} (r : Result T E) (old one now label value rest : List ℕ) → one ≡ old ++ (label ++ value)
    → OnOk r (now ≡ one ++ rest) → OnOk r (now ≡ old ++ (label ++ (value ++ rest)))
behind_field (Ok x) old one now label value rest first second =
    second ∙ ap (λ t. t ++ rest) first ∙ append_assoc old (label ++ value) rest ∙ ap (λ t. old ++ t) (append_assoc label value rest)
behind_field (Err e) old one now label value rest first second = tt
