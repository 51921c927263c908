-- Each frame is shown by one line.
use Rattle.std.proofs.Common.{◌≡◌, ◌↔◌, ℕ, ◌==◌, Bool, true, false, List, Option, Some, None, MatchBool, MatchOption, refl, ap, sym, ◌∙◌}
use Rattle.std.proofs.lemmas.Bool.{eqb-true}
use Rattle.hex.specs.Hex.{IsBytes}
use Rattle.pdus.specs.declared.clnp_options.judge.OptionRefusal.{OptionRefusal}
use Rattle.pdus.specs.PduHeader.Grammar.{BeginsWith}
use Rattle.pdus.specs.PduHeader.Rules.{octet, refusal, is_reportable}
use Rattle.pdus.specs.PduHeader.Value.{PduValue}
use Rattle.captures.specs.Shown.{Shows, ShowsValue, value_text, refusal_text}
use Rattle.captures.specs.Words.{checksum_of}
use Rattle.captures.specs.EsisShown.{ShowsOther}
use Rattle.captures.proofs.OneOther.{OneEsis, SomeEsis, one_other, some_other}

-- the line that shows a frame, by whether it begins with 0x81, and by its refusal
abbrev pub ShownBy : Bool → Option OptionRefusal → List ℕ → List ℕ → Type 0
ShownBy is_clnp found frame line =
    MatchBool is_clnp
    (MatchOption found (ShowsValue frame line) (λ r. line ≡ refusal_text r.rule r.reason r.place (is_reportable frame)))
    (ShowsOther frame line)

-- the law that a frame begins with one PDU
abbrev pub OneValue : Type 0
OneValue =
    (frame : List ℕ) (v w : PduValue) (rest others : List ℕ) → BeginsWith frame v rest → BeginsWith frame w others → (v ≡ w) × (rest ≡ others)

-- the law that a frame that breaks no rule begins with a PDU
abbrev pub SomeValue : Type 0
SomeValue =
    (frame : List ℕ) → IsBytes frame → octet frame 1 ≡ 0x81 → (refusal frame ≡ None) ↔ ((v : PduValue) × (rest : List ℕ) × BeginsWith frame v rest)

same_value : OneValue → (frame a b : List ℕ) → ShowsValue frame a → ShowsValue frame b → a ≡ b
same_value law frame a b one other =
    let same = law frame one.value other.value one.rest other.rest one.begins other.begins in
    one.text ∙ ap (λ (v : PduValue). value_text v (checksum_of frame) one.rest) same.0
    ∙ ap (λ (rest : List ℕ). value_text other.value (checksum_of frame) rest) same.1 ∙ sym other.text

same_by : OneValue → OneEsis → (is_clnp : Bool) (found : Option OptionRefusal) (frame a b : List ℕ)
    → ShownBy is_clnp found frame a → ShownBy is_clnp found frame b → a ≡ b
same_by law esis true None frame a b one other = same_value law frame a b one other
same_by law esis true (Some r) frame a b one other = one ∙ sym other
same_by law esis false found frame a b one other = one_other esis frame a b one other

pub one_line : OneValue → OneEsis → (frame a b : List ℕ) → Shows frame a → Shows frame b → a ≡ b
one_line law esis frame a b one other = same_by law esis (octet frame 1 == 0x81) (refusal frame) frame a b one other

some_by : (is_clnp : Bool) (found : Option OptionRefusal) (frame : List ℕ)
    → (is_clnp ≡ true → found ≡ None → (v : PduValue) × (rest : List ℕ) × BeginsWith frame v rest)
    → ((line : List ℕ) × ShowsOther frame line)
    → (line : List ℕ) × ShownBy is_clnp found frame line
some_by true None frame pdu other =
    let found = pdu refl refl in (
      value_text found.0 (checksum_of frame) found.1,
      record { value = found.0; rest = found.1; begins = found.2; text = refl },
    )
some_by true (Some r) frame pdu other = (refusal_text r.rule r.reason r.place (is_reportable frame), refl)
some_by false found frame pdu other = other

pub some_line : SomeValue → SomeEsis → (frame : List ℕ) → IsBytes frame → (line : List ℕ) × Shows frame line
some_line law esis frame bytes =
    some_by (octet frame 1 == 0x81) (refusal frame) frame (λ clnp none. (law frame bytes (eqb-true (octet frame 1) 0x81 clnp)).0 none) (some_other esis frame bytes)
