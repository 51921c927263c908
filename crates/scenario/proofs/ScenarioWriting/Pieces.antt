-- Pieces that are appended one behind another.
use Rattle.std.proofs.Common.{◌≡◌, ◌∙◌, ℕ, List, ◌++◌, ap, append_assoc}

behind_five : (old a b c d e : List ℕ) → ((((old ++ a) ++ b) ++ c) ++ d) ++ e ≡ old ++ ((((a ++ b) ++ c) ++ d) ++ e)
behind_five old a b c d e =
    ap (λ (t : List ℕ). ((t ++ c) ++ d) ++ e) (append_assoc old a b)
    ∙ (ap (λ (t : List ℕ). (t ++ d) ++ e) (append_assoc old (a ++ b) c)
    ∙ (ap (λ (t : List ℕ). t ++ e) (append_assoc old ((a ++ b) ++ c) d) ∙ append_assoc old (((a ++ b) ++ c) ++ d) e))

pub five_pieces : (old a b c d e first second third fourth last : List ℕ)
    → first ≡ old ++ a → second ≡ first ++ b → third ≡ second ++ c → fourth ≡ third ++ d → last ≡ fourth ++ e
    → last ≡ old ++ ((((a ++ b) ++ c) ++ d) ++ e)
five_pieces old a b c d e first second third fourth last p q r s t = rw (t, s, r, q, p) (behind_five old a b c d e)
