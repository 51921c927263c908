-- Each frame that doesn't begin with 0x81 is shown by one line.
use Rattle.std.proofs.Common.{◌≡◌, ◌↔◌, ℕ, ◌==◌, Bool, true, false, if◌then◌else◌, List, Option, Some, None, MatchOption, refl, ap, sym, ◌∙◌}
use Rattle.std.proofs.lemmas.Bool.{eqb-true}
use Rattle.hex.specs.Hex.{IsBytes}
use Rattle.pdus.specs.Fletcher.Checksum.{octet}
use Rattle.pdus.specs.declared.esis_pdus.pdu.EsisRefusal.{EsisRefusal}
use Rattle.pdus.specs.declared.esis_pdus.pdu.EsisRefusal.TheVariants.{NotEsis}
use Rattle.pdus.specs.EsisPdus.Grammar.{BeginsWith}
use Rattle.pdus.specs.EsisPdus.Rules.{refusal, why_refused}
use Rattle.pdus.specs.EsisPdus.Value.{EsisValue}
use Rattle.captures.specs.Words.{checksum_of}
use Rattle.captures.specs.EsisShown.{ShowsOther, ShowsEsis, esis_text, esis_refusal_text}

-- the law that a frame begins with one ES-IS PDU
abbrev pub OneEsis : Type 0
OneEsis =
    (frame : List ℕ) (v w : EsisValue) (rest others : List ℕ) → BeginsWith frame v rest → BeginsWith frame w others → (v ≡ w) × (rest ≡ others)

-- the law that a frame that breaks no rule begins with an ES-IS PDU
abbrev pub SomeEsis : Type 0
SomeEsis =
    (frame : List ℕ) → IsBytes frame → octet frame 1 ≡ 0x82 → (refusal frame ≡ None) ↔ ((v : EsisValue) × (rest : List ℕ) × BeginsWith frame v rest)

-- the line that shows a frame, by its refusal
abbrev pub ShownBy : Option EsisRefusal → List ℕ → List ℕ → Type 0
ShownBy found frame line = MatchOption found (ShowsEsis frame line) (λ refused. line ≡ esis_refusal_text refused)

same_by : OneEsis → (found : Option EsisRefusal) (frame a b : List ℕ) → ShownBy found frame a → ShownBy found frame b → a ≡ b
same_by law None frame a b one other =
    let same = law frame one.value other.value one.rest other.rest one.begins other.begins in
    one.text ∙ ap (λ (v : EsisValue). esis_text v (checksum_of frame) one.rest) same.0
    ∙ ap (λ (rest : List ℕ). esis_text other.value (checksum_of frame) rest) same.1 ∙ sym other.text
same_by law (Some r) frame a b one other = one ∙ sym other

pub one_other : OneEsis → (frame a b : List ℕ) → ShowsOther frame a → ShowsOther frame b → a ≡ b
one_other law frame a b one other = same_by law (why_refused frame) frame a b one other

some_by : (found : Option EsisRefusal) (frame : List ℕ) → (found ≡ None → (v : EsisValue) × (rest : List ℕ) × BeginsWith frame v rest)
    → (line : List ℕ) × ShownBy found frame line
some_by None frame pdu =
    let found = pdu refl in (
      esis_text found.0 (checksum_of frame) found.1,
      record { value = found.0; rest = found.1; begins = found.2; text = refl },
    )
some_by (Some r) frame pdu = (esis_refusal_text r, refl)

-- a frame that isn't refused begins with 0x82 and breaks no rule
not_refused : (is_esis : Bool) (found : Option EsisRefusal) → (if is_esis then found else Some NotEsis) ≡ None → (is_esis ≡ true) × (found ≡ None)
not_refused true found h = (refl, h)
not_refused false found h = cc

pub some_other : SomeEsis → (frame : List ℕ) → IsBytes frame → (line : List ℕ) × ShowsOther frame line
some_other law frame bytes =
    some_by (why_refused frame) frame
    (λ none. let n = not_refused (octet frame 1 == 0x82) (refusal frame) none in (law frame bytes (eqb-true (octet frame 1) 0x82 n.0)).0 n.1)
