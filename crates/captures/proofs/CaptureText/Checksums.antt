-- The checksum that is shown of a frame is its octets 8 and 9.
use Rattle.std.proofs.Common.{◌≡◌, ℕ, suc, ◌+◌, ◌*◌, ◌<◌, ◌≤◌, List, [], ◌∷◌, take, get_or, ap, ◌∙◌, arith}
use Rattle.std.proofs.lemmas.List.{get_or-take}
use Rattle.hex.specs.Hex.{IsBytes}
use Rattle.pdus.specs.PduHeader.Spelling.{pair_of}
use Rattle.pdus.proofs.PduHeader.Shape.{pair_of_octets}
use Rattle.captures.specs.Words.{checksum_of}

-- nine octets, of which the second is the header's length, and what follows them
abbrev pub nine : ℕ → ℕ → ℕ → ℕ → ℕ → ℕ → ℕ → ℕ → ℕ → List ℕ → List ℕ
nine a size c d e f g x y behind = a ∷ size ∷ c ∷ d ∷ e ∷ f ∷ g ∷ x ∷ y ∷ behind

pub checksum_is : (a size c d e f g x y : ℕ) (behind : List ℕ) → IsBytes (nine a size c d e f g x y behind) → 9 ≤ size
    → pair_of (checksum_of (nine a size c d e f g x y behind)) ≡ x ∷ y ∷ []
checksum_is a size c d e f g x y behind bytes long =
    let frame = nine a size c d e f g x y behind in
    let high : get_or (take size frame) 7 0 ≡ x = get_or-take size frame 7 0 (omega arith) in
    let low : get_or (take size frame) 8 0 ≡ y = get_or-take size frame 8 0 (omega arith) in
    let high_small : x < 256 = bytes 7 in
    let low_small : y < 256 = bytes 8 in
    ap (λ (n : ℕ). pair_of (256 * n + get_or (take size frame) 8 0)) high
    ∙ ap (λ (n : ℕ). pair_of (256 * x + n)) low
    ∙ pair_of_octets x y high_small low_small

pub behind_nine : (a size c d e f g x y : ℕ) (behind : List ℕ) → IsBytes (nine a size c d e f g x y behind) → IsBytes behind
behind_nine a size c d e f g x y behind bytes i = bytes (suc (suc (suc (suc (suc (suc (suc (suc (suc i)))))))))
