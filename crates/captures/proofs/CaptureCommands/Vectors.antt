-- What putting the verdict on a vector into a block comes to.
use Rattle.std.proofs.Common.{◌≡◌, ℕ, ◌+◌, List, [], ◌∷◌, ◌++◌, Result, Ok, Err, IfOk, refl, ap, ◌∙◌, append_assoc}
use Rattle.captures.specs.Vectors.{Expects, Judges, JudgesLine, vector_of}
use Rattle.captures.specs.declared.vector.Verdict.{Verdict}
use Rattle.clnp_base.specs.declared.command_base.block.LineFault.{LineFault}
use Rattle.clnp_base.specs.declared.command_base.block.LineFault.TheVariants as fault
use Rattle.clnp_base.specs.CommandBase.ByLine.{Good, PushOf}
use Rattle.captures.specs.declared.capture_commands.check.Tally.{Tally}
use Rattle.captures.specs.CaptureCommands.Check.{checking, counting}

-- the verdict on a vector, and its end, before what the later lines call for
pub good_vector : (line : List ℕ) (number : ℕ) (tally : Tally) (octets expected : List ℕ) (verdict : Verdict) (text : List ℕ)
    → vector_of line ≡ Expects octets expected → Judges number octets expected verdict text
    → Good checking (record { number = number; tally = tally }) (record { number = number + 1; tally = counting verdict tally }) (line ∷ []) (text ++ (10 ∷ []))
good_vector line number tally octets expected verdict text is judges = record {
  behind = λ ending later rest calls. rw is (record {
    verdict = verdict;
    line = text;
    rest = rest;
    judges = judges;
    goes_on = calls;
    text = append_assoc text (10 ∷ []) rest;
  });
  answer = λ later answered answers. rw is answers;
}

-- what putting the verdict on a vector and its end into a block comes to
pub pushed_vector : (line : List ℕ) (number : ℕ) (tally : Tally) (verdict : Verdict) (before between after : List ℕ) (r : Result Tally LineFault)
    → JudgesLine line number verdict before between
    → IfOk r (λ counts. (after ≡ between ++ (10 ∷ [])) × (counts ≡ counting verdict tally))
    → ((why : LineFault) → r ≡ Err why → why ≡ fault.NoMemory)
    → PushOf checking (record { number = number; tally = tally }) (λ counts. record { number = number + 1; tally = counts }) number line before after r
pushed_vector line number tally verdict before between after (Ok counts) j ended refused = (
  j.text ++ (10 ∷ []),
  rw ended.1 (good_vector line number tally j.octets j.expected verdict j.text j.is j.judges),
  ended.0 ∙ ap (λ (t : List ℕ). t ++ (10 ∷ [])) j.appended ∙ append_assoc before j.text (10 ∷ []),
)
pushed_vector line number tally verdict before between after (Err fault.NoMemory) j ended refused = tt
pushed_vector line number tally verdict before between after (Err (fault.Bad code)) j ended refused =
    let e : fault.Bad code ≡ fault.NoMemory = refused (fault.Bad code) refl in absurd (cc)
