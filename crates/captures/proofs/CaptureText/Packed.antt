-- A line packs to the frame that is read of it, and to no other.
use Rattle.std.proofs.Common.{◌≡◌, ℕ, ◌==◌, Bool, true, false, List, ◌++◌, Option, Some, None, MatchBool, MatchOption, inl, inr, ◌⊎◌, refl, sym, ap, subst, ◌∙◌}
use Rattle.pdus.specs.ClnpBase.Text.{words_of}
use Rattle.pdus.specs.declared.clnp_options.judge.OptionRefusal.{OptionRefusal}
use Rattle.pdus.specs.declared.esis_pdus.pdu.EsisRefusal.{EsisRefusal}
use Rattle.pdus.specs.declared.esis_pdus.pdu.EsisRefusal.TheVariants.{NotEsis, Broken}
use Rattle.pdus.specs.EsisPdus.Rules.{why_refused}
use Rattle.pdus.specs.PduHeader.Rules.{octet, refusal, is_reportable}
use Rattle.captures.specs.Shown.{Shows, ShowsValue, front_text, refusal_text}
use Rattle.captures.specs.EsisShown.{ShowsEsis, esis_refusal_text, esis_word}
use Rattle.pdus.specs.declared.esis_pdus.pdu.EsisBody.{EsisBody}
use Rattle.pdus.specs.declared.esis_pdus.pdu.EsisBody.TheVariants.{Esh, Ish, Rd}
use Rattle.captures.specs.CaptureText.Packing.{IsAccepted, IsAsked, Packs, is_unpackable}
use Rattle.captures.specs.CaptureText.Laid.{frame_of}
use Rattle.captures.proofs.CaptureText.ClnpLines.{read_clnp}
use Rattle.captures.proofs.CaptureText.EsisLines.{read_esis}

-- a frame is accepted, and is shown by a line, by whether it begins with 0x81 and by its refusals
abbrev AcceptedBy : Bool → Option OptionRefusal → Option EsisRefusal → Type 0
AcceptedBy is_clnp clnp esis = MatchBool is_clnp (clnp ≡ None) (esis ≡ None)

abbrev ShownBy : Bool → Option OptionRefusal → Option EsisRefusal → List ℕ → List ℕ → Type 0
ShownBy is_clnp clnp esis frame line =
    MatchBool is_clnp
    (MatchOption clnp (ShowsValue frame line) (λ r. line ≡ refusal_text r.rule r.reason r.place (is_reportable frame)))
    (MatchOption esis (ShowsEsis frame line) (λ r. line ≡ esis_refusal_text r))

shown_by : (is_clnp : Bool) (clnp : Option OptionRefusal) (esis : Option EsisRefusal) (frame line : List ℕ)
    → AcceptedBy is_clnp clnp esis → ShownBy is_clnp clnp esis frame line → ShowsValue frame line ⊎ ShowsEsis frame line
shown_by true None esis frame line accepted shown = inl shown
shown_by true (Some r) esis frame line accepted shown = cc accepted
shown_by false clnp None frame line accepted shown = inr shown
shown_by false clnp (Some r) frame line accepted shown = cc accepted

-- an accepted frame is shown as a PDU of CLNP or as one of ES-IS
pub value_of : (line frame : List ℕ) → Packs line frame → ShowsValue frame line ⊎ ShowsEsis frame line
value_of line frame packs = shown_by (octet frame 1 == 0x81) (refusal frame) (why_refused frame) frame line packs.accepted packs.shown

-- the frame that is read of a line is the frame that it packs to
pub read_back : (line frame : List ℕ) → Packs line frame → frame_of (words_of line) ≡ Some frame
read_back line frame packs =
    elim (value_of line frame packs) [
      | inl shows ↦ read_clnp frame line packs.octets shows
      | inr shows ↦ read_esis frame line packs.octets shows
    ]

pub one_some : (found : Option (List ℕ)) (a b : List ℕ) → found ≡ Some a → found ≡ Some b → a ≡ b
one_some (Some x) a b e f = cc
one_some None a b e f = cc e

pub one_frame : (line frame other : List ℕ) → Packs line frame → Packs line other → frame ≡ other
one_frame line frame other one another = one_some (frame_of (words_of line)) frame other (read_back line frame one) (read_back line other another)

-- ---- lines of accepted frames, and of others

clnp_asked : (frame line : List ℕ) → ShowsValue frame line → IsAsked line
unfolding front_text
clnp_asked frame line shows = subst IsAsked (sym shows.text) (record { unskipped = refl; packable = refl })

esis_asked_by : (body : EsisBody) (rest : List ℕ) → IsAsked (esis_word body ++ rest)
esis_asked_by (Esh addresses) rest = record { unskipped = refl; packable = refl }
esis_asked_by (Ish title) rest = record { unskipped = refl; packable = refl }
esis_asked_by (Rd to via title) rest = record { unskipped = refl; packable = refl }

esis_asked : (frame line : List ℕ) → ShowsEsis frame line → IsAsked line
esis_asked frame line shows = subst IsAsked (sym shows.text) (esis_asked_by shows.value.body _)

pub asked : (line frame : List ℕ) → Packs line frame → IsAsked line
asked line frame packs =
    elim (value_of line frame packs) [
      | inl shows ↦ clnp_asked frame line shows
      | inr shows ↦ esis_asked frame line shows
    ]

other_unpackable : (r : EsisRefusal) → is_unpackable (esis_refusal_text r) ≡ true
other_unpackable NotEsis = refl
other_unpackable (Broken rule place) = refl

-- a line that isn't that of a refused frame is shown of accepted ones alone
accepted_by : (is_clnp : Bool) (clnp : Option OptionRefusal) (esis : Option EsisRefusal) (frame line : List ℕ)
    → is_unpackable line ≡ false → ShownBy is_clnp clnp esis frame line → AcceptedBy is_clnp clnp esis
accepted_by true None esis frame line packable shown = refl
accepted_by true (Some r) esis frame line packable shown =
    let e : is_unpackable line ≡ true = ap is_unpackable shown in cc
accepted_by false clnp None frame line packable shown = refl
accepted_by false clnp (Some r) frame line packable shown =
    let e : is_unpackable line ≡ true = ap is_unpackable shown ∙ other_unpackable r in cc

pub accepted : (frame line : List ℕ) → is_unpackable line ≡ false → Shows frame line → IsAccepted frame
accepted frame line packable shown = accepted_by (octet frame 1 == 0x81) (refusal frame) (why_refused frame) frame line packable shown
