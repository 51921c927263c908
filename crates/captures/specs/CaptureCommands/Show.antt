-- What the lines of a capture call for.
use Rattle.std.specs.Prelude.{◌≡◌, ℕ, ◌+◌, List, [], ◌∷◌, ◌++◌}
use Rattle.captures.specs.Captures.{Capture, Skipped, Malformed, TooLong, Frame, capture_of}
use Rattle.captures.specs.Shown.{Shows}
use Rattle.clnp_base.specs.declared.command_base.status.Status.{Status}
use Rattle.clnp_base.specs.declared.command_base.status.Status.TheVariants as status
use Rattle.clnp_base.specs.CommandBase.ByLine.{Work}
use Rattle.clnp_base.specs.CommandBase.Codes.{count_code, syntax_code}

-- what a line with this number calls for, before lines that call for `later`
abbrev pub status_at : ℕ → Capture → Status → Status
status_at number Skipped later = later
status_at number Malformed later = status.BadInput number syntax_code
status_at number TooLong later = status.BadInput number count_code
status_at number (Frame octets) later = later

-- the answer that lines call for, the first of which has this number: the first bad line, if there is one
abbrev pub show_status : ℕ → List (List ℕ) → Status
show_status number [] = status.Done
show_status number (line ∷ others) = status_at number (capture_of line) (show_status (number + 1) others)

-- a line that shows the frame of these octets, and its end (10), before output that is as `later` wants it
pub record ShowsFrame (octets : List ℕ) (later : List ℕ → Type 0) (output : List ℕ) : Type 0 where
  pub line : List ℕ
  pub rest : List ℕ
  pub shows : Shows octets line
  pub goes_on : later rest
  pub text : output ≡ line ++ (10 ∷ rest)

-- the output that a line calls for, before lines whose output is as `later` wants it
abbrev pub ShowsLine : Capture → (List ℕ → Type 0) → List ℕ → Type 0
ShowsLine Skipped later output = later output
ShowsLine Malformed later output = output ≡ []
ShowsLine TooLong later output = output ≡ []
ShowsLine (Frame octets) later output = ShowsFrame octets later output

-- The output that lines call for: nothing of a line to skip, a shown line of each frame, and nothing more from the
-- first bad line on.
abbrev pub ShowsLines : List (List ℕ) → List ℕ → Type 0
ShowsLines [] output = output ≡ []
ShowsLines (line ∷ others) output = ShowsLine (capture_of line) (ShowsLines others) output

-- `show` goes over lines: the point is the number of the next one.
abbrev pub showing : Work
showing = record {
  Point = ℕ;
  Ending = Unit {0};
  calls = λ ending lines number output. ShowsLines lines output;
  answer = λ lines number answered. show_status number lines ≡ answered;
  whole = tt;
  broken = tt;
}
