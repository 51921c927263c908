-- What lines of shown text call for, each packed back to its frame.
use Rattle.std.specs.Prelude.{◌≡◌, ℕ, ◌+◌, List, [], ◌∷◌, ◌++◌}
use Rattle.pdus.specs.Nsap.Text.{hex_text}
use Rattle.captures.specs.CaptureText.Outcome.{Outcome, Skipped, NotPackable, NotShown, TooLong, Frame, ComesOf}
use Rattle.clnp_base.specs.declared.command_base.status.Status.{Status}
use Rattle.clnp_base.specs.declared.command_base.status.Status.TheVariants as status
use Rattle.clnp_base.specs.CommandBase.ByLine.{Work}
use Rattle.clnp_base.specs.CommandBase.Codes.{count_code, not_packable_code, syntax_code}

-- the answer that a line with this number calls for, of which this comes, before lines whose answer is as `later` wants it
abbrev pub PackAnswer : ℕ → Outcome → (later : Status → Type 0) → Status → Type 0
PackAnswer number Skipped later answered = later answered
PackAnswer number NotPackable later answered = answered ≡ status.BadInput number not_packable_code
PackAnswer number NotShown later answered = answered ≡ status.BadInput number syntax_code
PackAnswer number TooLong later answered = answered ≡ status.BadInput number count_code
PackAnswer number (Frame octets) later answered = later answered

-- The answer that lines call for, the first of which has this number: by what comes of each, that of the first bad line if
-- there is one.
abbrev pub PackAnswers : ℕ → List (List ℕ) → Status → Type 0
PackAnswers number [] answered = answered ≡ status.Done
PackAnswers number (line ∷ others) answered =
    (outcome : Outcome) × ComesOf outcome line × PackAnswer number outcome (PackAnswers (number + 1) others) answered

-- the digits of a frame in lower case and the end of their line (10), before output that is as `later` wants it
pub record PacksFrame (octets : List ℕ) (later : List ℕ → Type 0) (output : List ℕ) : Type 0 where
  pub rest : List ℕ
  pub goes_on : later rest
  pub text : output ≡ hex_text octets ++ (10 ∷ rest)

-- the output that a line calls for of which this comes, before lines whose output is as `later` wants it
abbrev pub PacksLine : Outcome → (later : List ℕ → Type 0) → List ℕ → Type 0
PacksLine Skipped later output = later output
PacksLine NotPackable later output = output ≡ []
PacksLine NotShown later output = output ≡ []
PacksLine TooLong later output = output ≡ []
PacksLine (Frame octets) later output = PacksFrame octets later output

-- The output that lines call for, by what comes of each: nothing of a line to skip, a line of a capture for each frame, and
-- nothing more from the first bad line on.
abbrev pub PacksLines : List (List ℕ) → List ℕ → Type 0
PacksLines [] output = output ≡ []
PacksLines (line ∷ others) output = (outcome : Outcome) × ComesOf outcome line × PacksLine outcome (PacksLines others) output

-- `pack` goes over lines: the point is the number of the next one.
abbrev pub packing : Work
packing = record {
  Point = ℕ;
  Ending = Unit {0};
  calls = λ ending lines number output. PacksLines lines output;
  answer = λ lines number answered. PackAnswers number lines answered;
  whole = tt;
  broken = tt;
}
