-- The lines that captured traffic calls for.
use Rattle.std.specs.Prelude.{ℕ, List, [], ◌∷◌, ◌++◌, length, codes}
use Rattle.std.specs.Fmt.{decimal}
use Rattle.std.specs.List.{flat_map}
use Rattle.scenario.specs.Nsap.Text.{hex_text}
use Rattle.scenario.specs.PduHeader.Spelling.{pair_of}
use Rattle.scenario.specs.ClnpPlan.Journal.{kind_word, line_of, octets_word}
use Rattle.system_tables.specs.declared.fair_reassembly.came.Came.{Came}
use Rattle.system_tables.specs.FairReassembly.Classes.{Account, Shares, Told, Unread, Expired, Dead, Joined, Held, Repeat, Interference, NoSlot, Crowded, Many, accounts, accounts_of, frames_of}
use Rattle.clnp_program.specs.FairCommands.Grammar.{Capture}

-- the words behind the moment
abbrev pub told_words : Told → List (List ℕ)
told_words Unread = codes "unread" ∷ []
told_words (Expired from to id held) = codes "expired" ∷ hex_text from ∷ hex_text to ∷ hex_text (pair_of id) ∷ decimal held ∷ []
told_words (Dead from) = codes "dead" ∷ hex_text from ∷ []
told_words (Joined from to kind octets) = codes "unit" ∷ hex_text from ∷ hex_text to ∷ kind_word kind ∷ octets_word octets ∷ []
told_words (Held from id offset held) =
    codes "held" ∷ hex_text from ∷ hex_text (pair_of id) ∷ decimal offset ∷ decimal held ∷ []
told_words (Repeat from id offset) = codes "repeat" ∷ hex_text from ∷ hex_text (pair_of id) ∷ decimal offset ∷ []
told_words (Interference from id) = codes "interference" ∷ hex_text from ∷ hex_text (pair_of id) ∷ []
told_words (NoSlot from live) = codes "noslot" ∷ hex_text from ∷ decimal live ∷ []
told_words (Crowded from held size) = codes "crowded" ∷ hex_text from ∷ decimal held ∷ decimal size ∷ []
told_words (Many from kept) = codes "many" ∷ hex_text from ∷ decimal kept ∷ []

-- a line: the moment, and what is told then
abbrev pub told_line : ℕ → Told → List ℕ
told_line moment told = line_of (decimal moment) (told_words told)

-- the lines of a frame
abbrev pub account_text : Account → List ℕ
account_text account = flat_map (told_line account.came.moment) account.told

-- the last line: the number of frames
abbrev pub end_line : ℕ → List ℕ
end_line frames = line_of (codes "end") (decimal frames ∷ [])

-- the lines of frames, one after the other
abbrev pub frames_text : Shares → List Came → List ℕ
frames_text s frames = flat_map account_text (accounts s frames)

-- the lines of all frames, and the last line
abbrev pub output_of : Capture → List ℕ
output_of capture = frames_text capture.shares capture.frames ++ end_line (length capture.frames)

-- the lines of the frames of a class, by the place of its table
abbrev pub lines_of_class : ℕ → Capture → List ℕ
lines_of_class place capture = flat_map account_text (accounts_of capture.shares place capture.frames)

-- the same capture with all frames of other classes taken out
abbrev pub class_alone : ℕ → Capture → Capture
class_alone place capture = record { shares = capture.shares; frames = frames_of capture.shares place capture.frames }
