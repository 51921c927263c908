-- Each vector has one verdict.
use Rattle.std.proofs.Common.{◌≡◌, ℕ, List, refl, ap, ◌∙◌, sym}
use Rattle.hex.specs.Hex.{IsBytes}
use Rattle.captures.specs.declared.vector.Verdict.{Verdict}
use Rattle.captures.specs.Shown.{Shows}
use Rattle.captures.specs.Vectors.{verdict_of, verdict_text, Judges}

-- the law that each frame of octets has a shown line
abbrev pub SomeLine : Type 0
SomeLine = (frame : List ℕ) → IsBytes frame → (line : List ℕ) × Shows frame line

-- the law that each frame has one shown line
abbrev pub OneLine : Type 0
OneLine = (frame line other : List ℕ) → Shows frame line → Shows frame other → line ≡ other

pub some_verdict : SomeLine → (number : ℕ) (octets expected : List ℕ) → IsBytes octets
    → (verdict : Verdict) × ((text : List ℕ) × Judges number octets expected verdict text)
some_verdict law number octets expected bytes =
    let shown = law octets bytes in
    let verdict = verdict_of shown.0 expected in (
      verdict,
      (
        verdict_text number verdict shown.0,
        record { shown = shown.0; shows = shown.1; verdict_is = refl; text_is = refl },
      ),
    )

pub one_verdict : OneLine → (number : ℕ) (octets expected : List ℕ) (verdict other : Verdict) (text another : List ℕ)
    → Judges number octets expected verdict text → Judges number octets expected other another
    → (verdict ≡ other) × (text ≡ another)
one_verdict law number octets expected verdict other text another j k =
    let same : j.shown ≡ k.shown = law octets j.shown k.shown j.shows k.shows in
    let verdicts : verdict ≡ other = j.verdict_is ∙ ap (λ (s : List ℕ). verdict_of s expected) same ∙ sym k.verdict_is in (
      verdicts,
      j.text_is ∙ ap (λ (v : Verdict). verdict_text number v j.shown) verdicts ∙ ap (λ (s : List ℕ). verdict_text number other s) same ∙ sym k.text_is,
    )
