-- What the lines of a file of vectors call for.
use Rattle.std.specs.Prelude.{◌≡◌, ℕ, ◌+◌, List, [], ◌∷◌, ◌++◌, codes}
use Rattle.std.specs.Fmt.{decimal}
use Rattle.captures.specs.declared.vector.Verdict.{Verdict}
use Rattle.captures.specs.declared.vector.Verdict.TheVariants.{Skip, Pass, Fail}
use Rattle.captures.specs.Vectors.{Vector, Skipped, Malformed, TooLong, Expects, vector_of, Judges}
use Rattle.captures.specs.declared.capture_commands.check.Tally.{Tally}
use Rattle.clnp_base.specs.declared.command_base.status.Status.{Status}
use Rattle.clnp_base.specs.declared.command_base.status.Status.TheVariants as status
use Rattle.clnp_base.specs.CommandBase.ByLine.{Work}
use Rattle.clnp_base.specs.CommandBase.Codes.{count_code, syntax_code}

-- what a line with this number calls for, before lines that call for `later`
abbrev pub status_at : ℕ → Vector → Status → Status
status_at number Skipped later = later
status_at number Malformed later = status.BadInput number syntax_code
status_at number TooLong later = status.BadInput number count_code
status_at number (Expects octets expected) later = later

-- the answer that lines call for, the first of which has this number: the first bad line, if there is one
abbrev pub check_status : ℕ → List (List ℕ) → Status
check_status number [] = status.Done
check_status number (line ∷ others) = status_at number (vector_of line) (check_status (number + 1) others)

-- no vector yet
abbrev pub no_vectors : Tally
no_vectors = record { passed = 0; failed = 0 }

-- the counts of vectors that passed and that failed, with one verdict more
abbrev pub counting : Verdict → Tally → Tally
counting Skip tally = tally
counting Pass tally = record { passed = tally.passed + 1; failed = tally.failed }
counting Fail tally = record { passed = tally.passed; failed = tally.failed + 1 }

-- the last line: the counts
abbrev pub tally_text : Tally → List ℕ
tally_text tally = codes "passed " ++ (decimal tally.passed ++ (codes " failed " ++ (decimal tally.failed ++ (10 ∷ []))))

-- the line of the verdict on a vector, and its end (10), before output that is as `later` wants it
pub record ChecksVector (number : ℕ) (octets expected : List ℕ) (later : Verdict → List ℕ → Type 0) (output : List ℕ) : Type 0 where
  pub verdict : Verdict
  pub line : List ℕ
  pub rest : List ℕ
  pub judges : Judges number octets expected verdict line
  pub goes_on : later verdict rest
  pub text : output ≡ line ++ (10 ∷ rest)

-- the output that a line with this number calls for, before lines whose output is as `later` wants it after a verdict
abbrev pub ChecksLine : ℕ → Vector → (Verdict → List ℕ → Type 0) → List ℕ → Type 0
ChecksLine number Skipped later output = later Skip output
ChecksLine number Malformed later output = output ≡ []
ChecksLine number TooLong later output = output ≡ []
ChecksLine number (Expects octets expected) later output = ChecksVector number octets expected later output

-- The output that lines call for, the first of which has this number, behind vectors with these counts: nothing of a
-- line to skip, a verdict on each vector, nothing more from the first bad line on, and where none is bad what the
-- counts call for at the end.
abbrev pub ChecksFrom : (Tally → List ℕ) → List (List ℕ) → ℕ → Tally → List ℕ → Type 0
ChecksFrom ending [] number tally output = output ≡ ending tally
ChecksFrom ending (line ∷ others) number tally output =
    ChecksLine number (vector_of line) (λ verdict rest. ChecksFrom ending others (number + 1) (counting verdict tally) rest) output

-- the number of the next line, and the counts of the vectors before it
pub record Checked : Type 0 where
  pub number : ℕ
  pub tally : Tally

-- the first line, and no vector yet
abbrev pub first_checked : Checked
first_checked = record { number = 1; tally = no_vectors }

-- `check` goes over lines; its output ends with the counts.
abbrev pub checking : Work
checking = record {
  Point = Checked;
  Ending = Tally → List ℕ;
  calls = λ ending lines point output. ChecksFrom ending lines point.number point.tally output;
  answer = λ lines point answered. check_status point.number lines ≡ answered;
  whole = tally_text;
  broken = λ tally. [];
}
