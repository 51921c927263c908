-- What a run of the scenario of a seed counts, and the line that tells it.
use Rattle.std.specs.Prelude.{ℕ, ◌-◌, ◌^◌, min, Bool, List, [], ◌∷◌, ◌++◌, codes, length, Option, None, Some}
use Rattle.std.specs.List.{filter}
use Rattle.std.specs.Fmt.{decimal}
use Rattle.std.specs.Str.{bytes_eq}
use Rattle.clnp_machine.specs.ClnpBase.Text.{lines_of, words_of}
use Rattle.clnp_machine.specs.ScenarioPlan.Plan.{Plan}
use Rattle.scenario.specs.ScenarioWriting.Seeds.{storm}
use Rattle.clnp_machine.specs.ClnpNetwork.Run.{journal, last_world, stopped_at}
use Rattle.clnp_program.specs.declared.clnp_world.lines.Counts.{Counts}
use Rattle.clnp_program.specs.declared.network_commands.storm.Summary.{Summary}

-- the third of some words; no octets where there are fewer
abbrev pub third_of : List (List ℕ) → List ℕ
third_of [] = []
third_of (first ∷ []) = []
third_of (first ∷ second ∷ []) = []
third_of (first ∷ second ∷ third ∷ others) = third

-- whether a line of a journal is of a kind, which its third word names
abbrev pub is_of_kind : (kind line : List ℕ) → Bool
is_of_kind kind line = bytes_eq (third_of (words_of line)) kind

-- how many of some lines are of a kind
abbrev pub count_of : (kind : List ℕ) (lines : List (List ℕ)) → ℕ
count_of kind lines = length (filter (is_of_kind kind) lines)

-- how many of some lines are of each kind that a storm counts
abbrev pub counts_in : (lines : List (List ℕ)) → Counts
counts_in lines = record {
  got = count_of (codes "got") lines;
  reports = count_of (codes "report") lines;
  echoed = count_of (codes "echoed") lines;
  drops = count_of (codes "drop") lines;
  expired = count_of (codes "expired") lines;
}

abbrev pub counts_of : (text : List ℕ) → Counts
counts_of text = counts_in (lines_of text)

-- as a storm tells them: a count that is greater than 2^64 - 1 is told as that
abbrev pub capped : Counts → Counts
capped counts = record {
  got = min counts.got (2 ^ 64 - 1);
  reports = min counts.reports (2 ^ 64 - 1);
  echoed = min counts.echoed (2 ^ 64 - 1);
  drops = min counts.drops (2 ^ 64 - 1);
  expired = min counts.expired (2 ^ 64 - 1);
}

abbrev pub counts_text : Counts → List ℕ
counts_text counts =
    codes " got " ++ (decimal counts.got
    ++ (codes " reports " ++ (decimal counts.reports
    ++ (codes " echoed " ++ (decimal counts.echoed
    ++ (codes " drops " ++ (decimal counts.drops
    ++ (codes " expired " ++ decimal counts.expired))))))))

-- the line of what a run comes to
abbrev pub summary_text : Summary → List ℕ
summary_text summary =
    codes "storm " ++ (decimal summary.seed
    ++ (codes " events " ++ (decimal summary.events
    ++ (codes " copies " ++ (decimal summary.copies
    ++ (counts_text summary.counts
    ++ (codes " end " ++ (decimal summary.clock ++ (10 ∷ [])))))))))

-- what the run of a plan comes to that a seed makes: how many events there are, how many copies were made, what the
-- journal counts, and the last moment
abbrev pub summary_of : (seed : ℕ) → Plan → Summary
summary_of seed plan = record {
  seed = seed;
  events = length plan.events;
  copies = length (last_world plan).copies;
  counts = capped (counts_of (journal plan));
  clock = (last_world plan).clock;
}

abbrev pub line_of_run : (seed : ℕ) → Plan → List ℕ
line_of_run seed plan = summary_text (summary_of seed plan)

-- the line of the run of the scenario of a seed
unfoldable pub storm_line : (seed : ℕ) → List ℕ
storm_line seed = line_of_run seed (storm seed)

-- the weight at which the run of the scenario of a seed stops, where it does
unfoldable pub storm_stopped_at : (seed : ℕ) → Option ℕ
storm_stopped_at seed = stopped_at (storm seed)

-- what a storm writes: its line, and nothing where its run was stopped
abbrev pub line_unless : Option ℕ → List ℕ → List ℕ
line_unless None line = line
line_unless (Some weight) line = []

abbrev pub storm_output : (seed : ℕ) → List ℕ
storm_output seed = line_unless (storm_stopped_at seed) (storm_line seed)
