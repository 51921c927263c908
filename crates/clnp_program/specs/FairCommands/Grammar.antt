-- The grammar of a text of captured traffic, line by line, with the first bad line and its code.
use Rattle.std.specs.Prelude.{ℕ, ◌+◌, ◌&&◌, not, nat_le, nat_lt, Bool, if◌then◌else◌, List, [], ◌∷◌, ◌++◌, length, map, sum, codes, Result, Ok, Err}
use Rattle.std.specs.List.{list_any}
use Rattle.std.specs.Str.{bytes_eq}
use Rattle.scenario.specs.ClnpBase.Text.{lines_of, words_of, is_skipped}
use Rattle.system_tables.specs.declared.reassembly.table.TableLimits.{TableLimits}
use Rattle.system_tables.specs.declared.fair_reassembly.came.Came.{Came}
use Rattle.system_tables.specs.declared.fair_reassembly.share.Share.{Share}
use Rattle.system_tables.specs.FairReassembly.Classes.{Shares}
use Rattle.system_tables.specs.FairReassembly.Tables.{limits_of}
use Rattle.scenario.specs.declared.code.Code.{Code}
use Rattle.scenario.specs.declared.code.Code.TheVariants as bad
use Rattle.scenario.specs.Codes.{number_of}
use Rattle.scenario.specs.Grammar.{BadLine, ReadTo, at_line, is_line_of, nothing_after}
use Rattle.scenario.specs.Words.{◌>>=◌, address_word, five_words, found, frame_word, literal, number_word, two_words, wanted}

-- What a text says: the numbers of the tables, the sources that have a share, and the frames in the order in which they came.
pub record Capture : Type 0 where
  pub shares : Shares
  pub frames : List Came

-- The numbers of a table: how many buffers, segments and octets, and how long a buffer is kept.

abbrev pub slots_word : List ℕ → Result ℕ Code
slots_word word = number_word 1 1024 word

abbrev pub segments_word : List ℕ → Result ℕ Code
segments_word word = number_word 1 16384 word

abbrev pub budget_word : List ℕ → Result ℕ Code
budget_word word = number_word 512 4194304 word

abbrev pub hold_word : List ℕ → Result ℕ Code
hold_word word = number_word 1 255 word

-- `others SLOTS SEGMENTS BUDGET HOLD`: the table of all sources without a share
abbrev pub others_line : List (List ℕ) → Result TableLimits Code
others_line words = do
  line ← found (five_words words) bad.Syntax
  _ ← literal (codes "others") line.0
  slots ← slots_word line.1
  segments ← segments_word line.2
  budget ← budget_word line.3
  hold ← hold_word line.4
  Ok (record { slots = slots; segments = segments; budget = budget; hold = hold })

-- `share ADDRESS SLOTS SEGMENTS BUDGET`: a source that has a table of its own, in which a buffer is kept as long as in that of
-- all others
abbrev pub share_line : (hold : ℕ) → List (List ℕ) → Result Share Code
share_line hold words = do
  line ← found (five_words words) bad.Syntax
  _ ← literal (codes "share") line.0
  from ← address_word line.1
  slots ← slots_word line.2
  segments ← segments_word line.3
  budget ← budget_word line.4
  Ok (record { from = from; limits = record { slots = slots; segments = segments; budget = budget; hold = hold } })

-- at most 64 sources have a share, and all tables together keep at most so many segments and octets
abbrev pub are_few : TableLimits → List Share → Bool
are_few others shares =
    nat_le (length shares) 64
    && (nat_le (sum (map (λ (limits : TableLimits). limits.segments) (limits_of others shares))) 65536
    && nat_le (sum (map (λ (limits : TableLimits). limits.budget) (limits_of others shares))) 16777216)

-- whether a source has a share
abbrev pub has_share : List Share → List ℕ → Bool
has_share shares from = list_any (λ (other : Share). bytes_eq other.from from) shares

-- one more share, of a source that has none yet, where they stay few
abbrev pub with_share : TableLimits → List Share → Share → Result (List Share) Code
with_share others shares share = do
  _ ← wanted (not (has_share shares share.from)) bad.DupAddress
  _ ← wanted (are_few others (shares ++ share ∷ [])) bad.Count
  Ok (shares ++ share ∷ [])

-- the shares with that of one more line
abbrev pub more_shares : TableLimits → List Share → List (List ℕ) → Result (List Share) Code
more_shares others shares words = share_line others.hold words >>= λ share. with_share others shares share

-- `T HEX`: a frame, at a moment that isn't before the last one; it has at most 70,000 octets
abbrev pub frame_line : (last : ℕ) → List (List ℕ) → Result Came Code
frame_line last words = do
  line ← found (two_words words) bad.Syntax
  _ ← wanted (not (bytes_eq line.0 (codes "end"))) bad.Syntax
  moment ← number_word last 4294967295 line.0
  frame ← frame_word line.1
  _ ← wanted (nat_le (length frame) 70000) bad.Count
  Ok (record { moment = moment; frame = frame })

-- a frame behind so many others, where they stay at most 100,000
abbrev pub next_frame : (last count : ℕ) → List (List ℕ) → Result Came Code
next_frame last count words = do
  came ← frame_line last words
  _ ← wanted (nat_lt count 100000) bad.Count
  Ok came

-- The first line that isn't skipped is the header.
abbrev pub header_from : ℕ → List (List ℕ) → Result (ReadTo (Unit {0})) BadLine
header_from n [] = Err (record { line = n; code = number_of bad.Header })
header_from n (line ∷ lines) =
    if is_skipped line then header_from (n + 1) lines
    else if bytes_eq line (codes "clnp-reassemble 1") then Ok (record { value = tt; number = n + 1; lines = lines })
    else Err (record { line = n; code = number_of bad.Header })

-- The next one is that of all sources without a share.
abbrev pub others_from : ℕ → List (List ℕ) → Result (ReadTo TableLimits) BadLine
others_from n [] = Err (record { line = n; code = number_of bad.Syntax })
others_from n (line ∷ lines) =
    if is_skipped line then others_from (n + 1) lines
    else (at_line n (others_line (words_of line)) >>= λ others. Ok (record { value = others; number = n + 1; lines = lines }))

-- Shares follow, up to the line `frames`.
abbrev pub shares_from : ℕ → TableLimits → List Share → List (List ℕ) → Result (ReadTo (List Share)) BadLine
shares_from n others shares [] = Err (record { line = n; code = number_of bad.Syntax })
shares_from n others shares (line ∷ lines) =
    if is_skipped line then shares_from (n + 1) others shares lines
    else if is_line_of (codes "frames") (words_of line) then Ok (record { value = shares; number = n + 1; lines = lines })
    else (at_line n (more_shares others shares (words_of line)) >>= λ more.
    shares_from (n + 1) others more lines)

-- Frames follow, up to the line `end`, and nothing behind it.
abbrev pub frames_from : (n last : ℕ) → List Came → List (List ℕ) → Result (List Came) BadLine
frames_from n last frames [] = Err (record { line = n; code = number_of bad.Syntax })
frames_from n last frames (line ∷ lines) =
    if is_skipped line then frames_from (n + 1) last frames lines
    else if is_line_of (codes "end") (words_of line) then (nothing_after (n + 1) lines >>= λ _. Ok frames)
    else (at_line n (next_frame last (length frames) (words_of line)) >>= λ came.
    frames_from (n + 1) came.moment (frames ++ came ∷ []) lines)

-- what the lines of a text say, or the first bad line
unfoldable pub capture_at : List (List ℕ) → Result Capture BadLine
capture_at lines = do
  header ← header_from 1 lines
  others ← others_from header.number header.lines
  shares ← shares_from others.number others.value [] others.lines
  frames ← frames_from shares.number 0 [] shares.lines
  Ok (record { shares = record { others = others.value; shares = shares.value }; frames = frames })

abbrev pub capture_of : List ℕ → Result Capture BadLine
capture_of text = capture_at (lines_of text)
