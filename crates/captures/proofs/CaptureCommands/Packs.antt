-- What putting the digits of the frame that a line packs to into a block comes to; and that lines call for one answer and
-- one output.
use Rattle.std.proofs.Common.{◌≡◌, ℕ, ◌+◌, true, List, [], ◌∷◌, ◌++◌, Result, Ok, Err, IfOk, refl, sym, ap, ◌∙◌, append_assoc, append-nil, subst}
use Rattle.pdus.specs.Nsap.Text.{hex_text}
use Rattle.clnp_base.specs.Text.{is_skipped}
use Rattle.captures.specs.declared.capture_text.refusal.PackRefusal.{PackRefusal}
use Rattle.captures.specs.declared.capture_text.refusal.PackRefusal.TheVariants as pack_refusal
use Rattle.captures.specs.CaptureText.Packing.{IsNotShown, PacksTooMuch, PacksWithin, is_unpackable}
use Rattle.captures.specs.CaptureText.Outcome.{Outcome, Skipped, NotPackable, NotShown, TooLong, Frame, ComesOf}
use Rattle.clnp_base.specs.declared.command_base.block.LineFault.{LineFault}
use Rattle.clnp_base.specs.declared.command_base.block.LineFault.TheVariants as fault
use Rattle.clnp_base.specs.declared.command_base.status.Status.{Status}
use Rattle.clnp_base.specs.declared.command_base.status.Status.TheVariants as status
use Rattle.clnp_base.specs.CommandBase.ByLine.{Good, PushOf}
use Rattle.clnp_base.specs.CommandBase.Codes.{count_code, not_packable_code, syntax_code}
use Rattle.clnp_base.proofs.CommandBase.ByLine.{Total}
use Rattle.captures.specs.CaptureCommands.Faults.{unpacked_fault}
use Rattle.captures.specs.CaptureCommands.Pack.{PackAnswer, PackAnswers, PacksLine, PacksLines, packing}

-- the laws of what comes of a line: something, and one thing alone
abbrev pub SomeOutcome : Type 0
SomeOutcome = (line : List ℕ) → (outcome : Outcome) × ComesOf outcome line

abbrev pub OneOutcome : Type 0
OneOutcome = (line : List ℕ) (one other : Outcome) → ComesOf one line → ComesOf other line → one ≡ other

-- ---- what lines call for

answer_some : (number : ℕ) (outcome : Outcome) (later : Status → Type 0) → (answered : Status) × later answered
    → (answered : Status) × PackAnswer number outcome later answered
answer_some number Skipped later rest = rest
answer_some number NotPackable later rest = (status.BadInput number not_packable_code, refl)
answer_some number NotShown later rest = (status.BadInput number syntax_code, refl)
answer_some number TooLong later rest = (status.BadInput number count_code, refl)
answer_some number (Frame octets) later rest = rest

pub answers_some : SomeOutcome → (lines : List (List ℕ)) (number : ℕ) → (answered : Status) × PackAnswers number lines answered
answers_some law [] number = (status.Done, refl)
answers_some law (line ∷ others) number =
    let found = law line in
    let some = answer_some number found.0 (PackAnswers (number + 1) others) (answers_some law others (number + 1)) in
    (some.0, (found.0, found.1, some.1))

answer_one : (number : ℕ) (outcome : Outcome) (later : Status → Type 0) → ((a b : Status) → later a → later b → a ≡ b)
    → (a b : Status) → PackAnswer number outcome later a → PackAnswer number outcome later b → a ≡ b
answer_one number Skipped later same a b p q = same a b p q
answer_one number NotPackable later same a b p q = p ∙ sym q
answer_one number NotShown later same a b p q = p ∙ sym q
answer_one number TooLong later same a b p q = p ∙ sym q
answer_one number (Frame octets) later same a b p q = same a b p q

pub answers_one : OneOutcome → (lines : List (List ℕ)) (number : ℕ) (a b : Status) → PackAnswers number lines a → PackAnswers number lines b → a ≡ b
answers_one law [] number a b p q = p ∙ sym q
answers_one law (line ∷ others) number a b p q =
    let later : Status → Type 0 = PackAnswers (number + 1) others in
    answer_one number p.0 later (answers_one law others (number + 1)) a b p.2
    (subst (λ (o : Outcome). PackAnswer number o later b) (law line q.0 p.0 q.1 p.1) q.2)

output_some : (outcome : Outcome) (later : List ℕ → Type 0) → (output : List ℕ) × later output → (output : List ℕ) × PacksLine outcome later output
output_some Skipped later rest = rest
output_some NotPackable later rest = ([], refl)
output_some NotShown later rest = ([], refl)
output_some TooLong later rest = ([], refl)
output_some (Frame octets) later rest = (hex_text octets ++ (10 ∷ rest.0), record { rest = rest.0; goes_on = rest.1; text = refl })

pub outputs_some : SomeOutcome → (lines : List (List ℕ)) → (output : List ℕ) × PacksLines lines output
outputs_some law [] = ([], refl)
outputs_some law (line ∷ others) =
    let found = law line in
    let some = output_some found.0 (PacksLines others) (outputs_some law others) in
    (some.0, (found.0, found.1, some.1))

output_one : (outcome : Outcome) (later : List ℕ → Type 0) → ((a b : List ℕ) → later a → later b → a ≡ b)
    → (a b : List ℕ) → PacksLine outcome later a → PacksLine outcome later b → a ≡ b
output_one Skipped later same a b p q = same a b p q
output_one NotPackable later same a b p q = p ∙ sym q
output_one NotShown later same a b p q = p ∙ sym q
output_one TooLong later same a b p q = p ∙ sym q
output_one (Frame octets) later same a b p q =
    p.text ∙ ap (λ (rest : List ℕ). hex_text octets ++ (10 ∷ rest)) (same p.rest q.rest p.goes_on q.goes_on) ∙ sym q.text

pub outputs_one : OneOutcome → (lines : List (List ℕ)) (a b : List ℕ) → PacksLines lines a → PacksLines lines b → a ≡ b
outputs_one law [] a b p q = p ∙ sym q
outputs_one law (line ∷ others) a b p q =
    output_one p.0 (PacksLines others) (outputs_one law others) a b p.2
    (subst (λ (o : Outcome). PacksLine o (PacksLines others) b) (law line q.0 p.0 q.1 p.1) q.2)

-- lines call for some output, from every place on
pub pack_total : SomeOutcome → Total packing
pack_total law = λ lines number. outputs_some law lines

-- ---- a line

-- a line to skip
pub pushed_nothing : (line old new : List ℕ) (number : ℕ) (x : Unit {0}) → is_skipped line ≡ true → new ≡ old
    → PushOf packing number (λ done. number + 1) number line old new (Ok x)
pushed_nothing line old new number x skipped same = (
  [],
  record {
    behind = λ ending later rest calls. (Skipped, skipped, calls);
    answer = λ later answered answers. (Skipped, skipped, answers);
  },
  same ∙ sym (append-nil old),
)

good_frame : (line octets : List ℕ) (number : ℕ) → PacksWithin line octets → Good packing number (number + 1) (line ∷ []) (hex_text octets ++ (10 ∷ []))
good_frame line octets number packs = record {
  behind = λ ending later rest calls.
      (Frame octets, packs, record { rest = rest; goes_on = calls; text = append_assoc (hex_text octets) (10 ∷ []) rest });
  answer = λ later answered answers. (Frame octets, packs, answers);
}

-- a line that packs to a frame, and the end of its line
pub pushed_frame : {A : Type 0} → (line octets old between new : List ℕ) (number : ℕ) (r : Result A LineFault) → PacksWithin line octets
    → between ≡ old ++ hex_text octets → IfOk r (λ done. new ≡ between ++ (10 ∷ [])) → ((why : LineFault) → r ≡ Err why → why ≡ fault.NoMemory)
    → PushOf packing number (λ done. number + 1) number line old new r
pushed_frame line octets old between new number (Ok x) packs digits ended refused = (
  hex_text octets ++ (10 ∷ []),
  good_frame line octets number packs,
  ended ∙ ap (λ (t : List ℕ). t ++ (10 ∷ [])) digits ∙ append_assoc old (hex_text octets) (10 ∷ []),
)
pushed_frame line octets old between new number (Err fault.NoMemory) packs digits ended refused = tt
pushed_frame line octets old between new number (Err (fault.Bad code)) packs digits ended refused =
    let e : fault.Bad code ≡ fault.NoMemory = refused (fault.Bad code) refl in absurd (cc)

-- a line that isn't packed
pub pushed_refusal : (A : Type 0) → (line old new : List ℕ) (number : ℕ) (why : PackRefusal)
    → (why ≡ pack_refusal.NotPackable → is_unpackable line ≡ true) → (why ≡ pack_refusal.NotShown → IsNotShown line) → (why ≡ pack_refusal.Count → PacksTooMuch line) → new ≡ old
    → PushOf {A = A} packing number (λ done. number + 1) number line old new (Err (unpacked_fault why))
pushed_refusal A line old new number pack_refusal.NotPackable unpackable not_shown many same = (
  record {
    stops = λ later. (NotPackable, unpackable refl, refl);
    answer = λ later. (NotPackable, unpackable refl, refl);
  },
  same,
)
pushed_refusal A line old new number pack_refusal.NotShown unpackable not_shown many same =
    (record { stops = λ later. (NotShown, not_shown refl, refl); answer = λ later. (NotShown, not_shown refl, refl) }, same)
pushed_refusal A line old new number pack_refusal.Count unpackable not_shown many same =
    (record { stops = λ later. (TooLong, many refl, refl); answer = λ later. (TooLong, many refl, refl) }, same)
pushed_refusal A line old new number pack_refusal.NoMemory unpackable not_shown many same = tt
