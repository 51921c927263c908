-- The grammar of a scenario text, line by line, with the first bad line and its code.
use Rattle.std.specs.Prelude.{ℕ, ◌+◌, ◌-◌, ◌&&◌, nat_le, Bool, false, if◌then◌else◌, List, [], ◌∷◌, map, codes, Option, None, Some, Result, Ok, Err}
use Rattle.std.specs.Str.{bytes_eq}
use Rattle.clnp_plan.specs.ClnpBase.Text.{lines_of, words_of, is_skipped}
use Rattle.scenario.specs.Codes.{number_of}
use Rattle.clnp_plan.specs.ScenarioPlan.Plan.{Plan}
use Rattle.scenario.specs.Words.{◌>>=◌, wanted, found, one_word}
use Rattle.scenario.specs.Declarations.{Declarations, nothing_declared, declaration_line, limits_of, all_declared, fits_board, configuration_of}
use Rattle.scenario.specs.Events.{Scene, first_scene, scene_after, event_line, is_live_line, counted, are_few, nothing_counted}
use Rattle.scenario.specs.declared.counts.Counts.{Counts}
use Rattle.clnp_plan.specs.declared.scenario_plan.event.Event.{Event}
use Rattle.scenario.specs.declared.code.Code.{Code}
use Rattle.scenario.specs.declared.code.Code.TheVariants as bad

-- the first line that breaks the grammar, from 1, and the number of the code of what it breaks
pub record BadLine : Type 0 where
  pub line : ℕ
  pub code : ℕ

-- what a line gives, or the line with its code
abbrev pub at_line : {A : Type 0} → ℕ → Result A Code → Result A BadLine
at_line n (Ok x) = Ok x
at_line n (Err code) = Err (record { line = n; code = number_of code })

-- what was read, the number of the next line, and the lines from it on
pub record ReadTo (A : Type 0) : Type 0 where
  pub value : A
  pub number : ℕ
  pub lines : List (List ℕ)

-- the newest version of scenario texts
abbrev pub newest_version : ℕ
newest_version = 2

-- the version that a header says, of those up to the newest
abbrev pub version_of : (newest : ℕ) → List ℕ → Option ℕ
version_of newest line =
    if bytes_eq line (codes "clnp-sim 1") then Some 1
    else if bytes_eq line (codes "clnp-sim 2") && nat_le 2 newest then Some 2
    else None

-- The first line that isn't skipped is the header, which says the text's version.
abbrev pub header_from : (newest : ℕ) → ℕ → List (List ℕ) → Result (ReadTo ℕ) BadLine
header_from newest n [] = Err (record { line = n; code = number_of bad.Header })
header_from newest n (line ∷ lines) =
    if is_skipped line then header_from newest (n + 1) lines
    else (at_line n (found (version_of newest line) bad.Header) >>= λ version.
    Ok (record { value = version; number = n + 1; lines = lines }))

abbrev pub is_word : List ℕ → Option (List ℕ) → Bool
is_word text None = false
is_word text (Some word) = bytes_eq word text

-- whether a line is this one word
abbrev pub is_line_of : List ℕ → List (List ℕ) → Bool
is_line_of text words = is_word text (one_word words)

-- Declarations up to the line `events`, where all must be declared.
abbrev pub declarations_from : ℕ → Declarations → List (List ℕ) → Result (ReadTo Declarations) BadLine
declarations_from n d [] = Err (record { line = n; code = number_of bad.Syntax })
declarations_from n d (line ∷ lines) =
    if is_skipped line then declarations_from (n + 1) d lines
    else if is_line_of (codes "events") (words_of line)
    then (at_line n (all_declared d) >>= λ _. Ok (record { value = d; number = n + 1; lines = lines }))
    else (at_line n (declaration_line d (words_of line)) >>= λ declared. declarations_from (n + 1) declared lines)

-- nothing but skipped lines comes after `end`
abbrev pub nothing_after : ℕ → List (List ℕ) → Result (Unit {0}) BadLine
nothing_after n [] = Ok tt
nothing_after n (line ∷ lines) =
    if is_skipped line then nothing_after (n + 1) lines else Err (record { line = n; code = number_of bad.Syntax })

-- the event of a line, counted with those before it
unfoldable pub counted_event : Scene → Counts → List (List ℕ) → Result Event Code
counted_event scene counts words = do
  event ← event_line scene words
  _ ← wanted (are_few (counted counts event)) bad.Count
  Ok event

-- the same for a live node, which takes some events alone: the first word of any other is no keyword
unfoldable pub live_event : Scene → Counts → List (List ℕ) → Result Event Code
live_event scene counts words = do
  _ ← wanted (is_live_line words) bad.Syntax
  counted_event scene counts words

-- how a line is read that says what happens: to a live node on a board of so many links, or else in a network
abbrev pub event_for : (links : Option ℕ) → Scene → Counts → List (List ℕ) → Result Event Code
event_for None = counted_event
event_for (Some links) = live_event

-- The event lines from number n on, each of which is read like this over what those before it leave, and `end`, where the events
-- before them were counted.
unfoldable pub events_from : (read : Scene → Counts → List (List ℕ) → Result Event Code) → Scene → ℕ → Counts
    → List (List ℕ) → Result (List Event) BadLine
events_from read scene n counts [] = Err (record { line = n; code = number_of bad.Syntax })
events_from read scene n counts (line ∷ lines) =
    if is_skipped line then events_from read scene (n + 1) counts lines
    else if is_line_of (codes "end") (words_of line) then (nothing_after (n + 1) lines >>= λ _. Ok [])
    else (at_line n (read scene counts (words_of line)) >>= λ event.
    events_from read (scene_after scene event) (n + 1) (counted counts event) lines >>= λ others.
    Ok (event ∷ others))

-- The line `events` of this number is a bad one where what is declared is for a board of so many links and doesn't fit it.
abbrev pub fit_for : (links : Option ℕ) → ℕ → Declarations → Result (Unit {0}) BadLine
fit_for None n d = Ok tt
fit_for (Some links) n d = at_line n (wanted (fits_board links d.systems) bad.Count)

-- what the lines behind a header say, or the first bad line
abbrev pub plan_behind : (links : Option ℕ) → ReadTo ℕ → Result Plan BadLine
plan_behind links header = do
  declared ← declarations_from header.number (nothing_declared header.value) header.lines
  _ ← fit_for links (declared.number - 1) declared.value
  events ← events_from (event_for links) (first_scene header.value (limits_of declared.value.limits).skew declared.value.subnets (map configuration_of declared.value.systems)) declared.number nothing_counted declared.lines
  Ok (record { version = header.value; limits = limits_of declared.value.limits; subnets = declared.value.subnets; systems = map configuration_of declared.value.systems; events = events })

-- what the lines of a text say whose version is one of those up to the newest; for a live node, where links are given
unfoldable pub plan_at : (links : Option ℕ) (newest : ℕ) → List (List ℕ) → Result Plan BadLine
plan_at links newest lines = header_from newest 1 lines >>= plan_behind links

abbrev pub plan_of : List ℕ → Result Plan BadLine
plan_of text = plan_at None newest_version (lines_of text)

-- the same of texts of version 1 alone: the header of another is a bad one
abbrev pub plan_of_version_1 : List ℕ → Result Plan BadLine
plan_of_version_1 text = plan_at None 1 (lines_of text)

-- The same of texts for a live node on a board of so many links: the line `events` is a bad one where not one system alone is
-- declared, with a port for each link, and so is each event's line whose first word isn't `send`, `echo` or `tick`, or which says
-- what system ticks.
abbrev pub run_plan_of : (links : ℕ) → List ℕ → Result Plan BadLine
run_plan_of links text = plan_at (Some links) newest_version (lines_of text)
