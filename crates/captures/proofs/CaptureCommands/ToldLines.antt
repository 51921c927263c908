-- The lines of records, behind one another.
use Rattle.std.proofs.Common.{◌≡◌, ℕ, ◌+◌, List, [], ◌∷◌, ◌++◌, length, refl, sym, ap, ◌∙◌, subst, arith}
use Rattle.std.proofs.lemmas.List.{append_assoc}
use Rattle.std.specs.Fmt.{decimal}
use Rattle.std.specs.Prelude.{codes}
use Rattle.std.specs.List.{AllByRecursion}
use Rattle.hex.specs.Hex.{IsBytes}
use Rattle.captures.specs.Shown.{Shows}
use Rattle.pdus.specs.Nsap.Text.{hex_text}
use Rattle.frame_links.specs.PcapFrames.File.{Captured}
use Rattle.frame_links.specs.PcapFrames.Frames.{SeenFrame, OtherFrame, CutFrame, OsiFrame, seen_in}
use Rattle.frame_links.proofs.PcapFrames.FrameFacts.{seen_are_bytes}
use Rattle.captures.specs.declared.capture_commands.form.Form.{Form}
use Rattle.captures.specs.declared.capture_commands.form.Form.TheVariants.{Shown, Remade}
use Rattle.captures.specs.CaptureCommands.Stations.{destination_word}
use Rattle.captures.specs.CaptureCommands.Lines.{ShowsOsi, ShowsSeen, TellsRecord, TellsRecords, line_seen}

-- ---- one behind the other

pub tells_append : (form : Form) (number : ℕ) (first later : List Captured) (a b : List ℕ) → TellsRecords form number first a
    → TellsRecords form (number + length first) later b → TellsRecords form number (first ++ later) (a ++ b)
tells_append form number [] later a b p q =
    subst (λ (t : List ℕ). TellsRecords form number later (t ++ b)) (sym p)
    (subst (λ (n : ℕ). TellsRecords form n later b) {x = number + length {A = Captured} []} {y = number} (omega arith) q)
tells_append form number (c ∷ cs) later a b p q =
    let more = subst (λ (n : ℕ). TellsRecords form n later b) {x = number + length (c ∷ cs)} {y = number + 1 + length cs} (omega arith) q in
    record {
      line = p.line;
      rest = p.rest ++ b;
      tells = p.tells;
      goes_on = tells_append form (number + 1) cs later p.rest b p.goes_on more;
      text = ap (λ (t : List ℕ). t ++ b) p.text ∙ append_assoc p.line (10 ∷ p.rest) b;
    }

-- two parts, of which the first begins with the first record
pub tells_both : (form : Form) (first later : List Captured) (a b : List ℕ) → TellsRecords form 1 first a
    → TellsRecords form (length first + 1) later b → TellsRecords form 1 (first ++ later) (a ++ b)
tells_both form first later a b p q =
    tells_append form 1 first later a b p
    (subst (λ (n : ℕ). TellsRecords form n later b) {x = length first + 1} {y = 1 + length first} (omega arith) q)

pub tells_one : (form : Form) (number : ℕ) (c : Captured) (line : List ℕ) → TellsRecord form number c line
    → TellsRecords form number (c ∷ []) (line ++ (10 ∷ []))
tells_one form number c line t = record { line = line; rest = []; tells = t; goes_on = refl; text = refl }

-- one record more in the block
pub tells_push : (form : Form) (first : ℕ) (waiting : List Captured) (number : ℕ) (c : Captured) (block line : List ℕ)
    → TellsRecords form first waiting block → number ≡ first + length waiting → TellsRecord form number c line
    → TellsRecords form first (waiting ++ c ∷ []) ((block ++ line) ++ (10 ∷ []))
tells_push form first waiting number c block line p e t =
    subst (λ (text : List ℕ). TellsRecords form first (waiting ++ c ∷ []) text) (sym (append_assoc block line (10 ∷ [])))
    (tells_append form first waiting (c ∷ []) block (line ++ (10 ∷ [])) p
    (subst (λ (n : ℕ). TellsRecords form n (c ∷ []) (line ++ (10 ∷ []))) e (tells_one form number c line t)))

-- ---- there is an output

-- the law that each frame of octets has a line that shows it
abbrev pub SomeLine : Type 0
SomeLine = (frame : List ℕ) → IsBytes frame → (line : List ℕ) × Shows frame line

shown_osi : SomeLine → (number : ℕ) (to from pdu : List ℕ) → IsBytes pdu → (line : List ℕ) × ShowsOsi number to from pdu line
shown_osi law number to from pdu bytes =
    let shown = law pdu bytes in (
      decimal number ++ (codes " " ++ (destination_word to ++ (codes " " ++ (hex_text from ++ (codes " " ++ shown.0))))),
      record { shown = shown.0; shows = shown.1; text = refl },
    )

shown_seen : SomeLine → (number : ℕ) (octets : List ℕ) (seen : SeenFrame) → IsBytes octets → seen_in octets ≡ seen
    → (line : List ℕ) × ShowsSeen number seen line
shown_seen law number octets OtherFrame bytes e = (decimal number ++ codes " other", refl)
shown_seen law number octets CutFrame bytes e = (decimal number ++ codes " cut", refl)
shown_seen law number octets (OsiFrame to from pdu) bytes e =
    shown_osi law number to from pdu (seen_are_bytes octets to from pdu bytes e).pdu_bytes

some_line : SomeLine → (form : Form) (number : ℕ) (c : Captured) → IsBytes c.octets → (line : List ℕ) × TellsRecord form number c line
some_line law Shown number c bytes = shown_seen law number c.octets (seen_in c.octets) bytes refl
some_line law Remade number c bytes = (line_seen number c.seconds (seen_in c.octets), refl)

abbrev pub AreOctets : List Captured → Type 0
AreOctets records = AllByRecursion (λ c. IsBytes c.octets) records

pub some_output : SomeLine → (form : Form) (number : ℕ) (records : List Captured) → AreOctets records
    → (output : List ℕ) × TellsRecords form number records output
some_output law form number [] are = ([], refl)
some_output law form number (c ∷ cs) are =
    let first = some_line law form number c are.0 in
    let others = some_output law form (number + 1) cs are.1 in (
      first.0 ++ (10 ∷ others.0),
      record { line = first.0; rest = others.0; tells = first.1; goes_on = others.1; text = refl },
    )

-- ---- there is one output

abbrev pub OneLine : Type 0
OneLine = (frame line other : List ℕ) → Shows frame line → Shows frame other → line ≡ other

one_seen : OneLine → (number : ℕ) (seen : SeenFrame) (line other : List ℕ) → ShowsSeen number seen line → ShowsSeen number seen other → line ≡ other
one_seen law number OtherFrame line other p q = p ∙ sym q
one_seen law number CutFrame line other p q = p ∙ sym q
one_seen law number (OsiFrame to from pdu) line other p q =
    p.text
    ∙ ap (λ (t : List ℕ). decimal number ++ (codes " " ++ (destination_word to ++ (codes " " ++ (hex_text from ++ (codes " " ++ t))))))
    (law pdu p.shown q.shown p.shows q.shows)
    ∙ sym q.text

one_told : OneLine → (form : Form) (number : ℕ) (c : Captured) (line other : List ℕ) → TellsRecord form number c line → TellsRecord form number c other
    → line ≡ other
one_told law Shown number c line other p q = one_seen law number (seen_in c.octets) line other p q
one_told law Remade number c line other p q = p ∙ sym q

pub one_output : OneLine → (form : Form) (records : List Captured) (number : ℕ) (output other : List ℕ)
    → TellsRecords form number records output → TellsRecords form number records other → output ≡ other
one_output law form [] number output other p q = p ∙ sym q
one_output law form (c ∷ cs) number output other p q =
    p.text
    ∙ ap (λ (t : List ℕ). t ++ (10 ∷ p.rest)) (one_told law form number c p.line q.line p.tells q.tells)
    ∙ ap (λ (t : List ℕ). q.line ++ (10 ∷ t)) (one_output law form cs (number + 1) p.rest q.rest p.goes_on q.goes_on)
    ∙ sym q.text
