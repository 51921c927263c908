-- The lines of a journal and of a trace, and their text.
use Rattle.std.specs.Prelude.{ℕ, Bool, true, false, List, [], ◌∷◌, ◌++◌, codes, Option, None, Some}
use Rattle.std.specs.List.{flat_map}
use Rattle.std.specs.Fmt.{decimal}
use Rattle.pdus.specs.Nsap.Prefix.{prefix_text}
use Rattle.pdus.specs.Nsap.Text.{hex_text}
use Rattle.pdus.specs.declared.nsap.target.Target.{Target}
use Rattle.pdus.specs.declared.nsap.target.Target.TheVariants.{System, EndSystems, Routers}
pub use Rattle.pdus.specs.PduHeader.Kinds.{kind_word}
use Rattle.pdus.specs.PduHeader.Spelling.{pair_of}
use Rattle.system_tables.specs.declared.esis_tables.fact.Heard.{Heard}
use Rattle.system_tables.specs.declared.esis_tables.fact.Heard.TheVariants as hearing
use Rattle.system_tables.specs.declared.esis_tables.fact.TableKind.{TableKind}
use Rattle.system_tables.specs.declared.esis_tables.fact.TableKind.TheVariants as table_kind
use Rattle.clnp_plan.specs.declared.journal.Telling.{Telling}
use Rattle.clnp_plan.specs.declared.journal.Telling.TheVariants as telling
use Rattle.clnp_plan.specs.declared.note.Note.{Note}
use Rattle.clnp_plan.specs.declared.note.Note.TheVariants.{Sent, Refused, Got, Report, Echoed, Stray, Discard, Held, Repeat, Crowded, Many, NoSlot, Interference, Expired, NotMine, Alien, BadEsis, Hear, Gone, Ignored, Restart, Congest, Route, Unroute, Port}
use Rattle.clnp_plan.specs.declared.note.Why.{Why}
use Rattle.clnp_plan.specs.declared.note.Why.TheVariants as why

-- octets in lower-case hexadecimal; no octets are `-`
abbrev pub octets_word : List ℕ → List ℕ
octets_word [] = codes "-"
octets_word (octet ∷ octets) = hex_text (octet ∷ octets)

-- a data unit identifier in four hexadecimal digits; `-` without a segmentation part
abbrev pub identifier_word : Option ℕ → List ℕ
identifier_word None = codes "-"
identifier_word (Some identifier) = hex_text (pair_of identifier)

-- an octet in two hexadecimal digits
abbrev pub octet_word : ℕ → List ℕ
octet_word octet = hex_text (octet ∷ [])

abbrev pub why_word : Why → List ℕ
why_word why.NotMine = codes "not-mine"
why_word why.TooLong = codes "too-long"
why_word why.Quiet = codes "quiet"
why_word why.IdsBusy = codes "ids-busy"

-- of whom was heard: end systems, intermediate systems, redirects
abbrev pub table_word : TableKind → List ℕ
table_word table_kind.Es = codes "es"
table_word table_kind.Is = codes "is"
table_word table_kind.Rd = codes "rd"

-- what came of a hearing; a full table is told with the number of its entries
abbrev pub heard_words : Heard → List (List ℕ)
heard_words hearing.New = codes "new" ∷ []
heard_words hearing.Again = codes "again" ∷ []
heard_words hearing.Zero = codes "zero" ∷ []
heard_words (hearing.Full entries) = codes "full" ∷ decimal entries ∷ []

-- a rule of ES-IS PDUs
abbrev pub rule_word : ℕ → List ℕ
rule_word rule = codes "E" ++ decimal rule

-- what isn't heard: a redirect, or an intermediate system's hello
abbrev pub ignored_word : Bool → List ℕ
ignored_word true = codes "rd"
ignored_word false = codes "ish"

-- whether a router is congested
abbrev pub on_or_off : Bool → List ℕ
on_or_off true = codes "on"
on_or_off false = codes "off"

-- whether a route was there
abbrev pub yes_or_no : Bool → List ℕ
yes_or_no true = codes "yes"
yes_or_no false = codes "no"

-- where a frame goes: to one system, or to a group
abbrev pub target_text : Target → List ℕ
target_text (System snpa) = hex_text snpa
target_text EndSystems = codes "es"
target_text Routers = codes "is"

-- a word and the space before it
abbrev pub behind_space : List ℕ → List ℕ
behind_space word = codes " " ++ word

-- a line: its first word and the others, separated by one space, and the line's end
abbrev pub line_of : List ℕ → List (List ℕ) → List ℕ
line_of first others = first ++ (flat_map behind_space others ++ codes "\n")

-- the words of a line behind the moment and the system's name
abbrev pub note_words : Note → List (List ℕ)
note_words (Sent kind unit id from to len) =
    codes "sent" ∷ kind_word kind ∷ decimal unit ∷ identifier_word id ∷ hex_text from ∷ hex_text to ∷ decimal len ∷ []
note_words (Refused why value) = codes "refused" ∷ why_word why ∷ decimal value ∷ []
note_words (Got from to octets) = codes "got" ∷ hex_text from ∷ hex_text to ∷ octets_word octets ∷ []
note_words (Report from to reason place octets) =
    codes "report" ∷ hex_text from ∷ hex_text to ∷ octet_word reason ∷ octet_word place ∷ octets_word octets ∷ []
note_words (Echoed from to unit) = codes "echoed" ∷ hex_text from ∷ hex_text to ∷ decimal unit ∷ []
note_words (Stray from to) = codes "stray" ∷ hex_text from ∷ hex_text to ∷ []
note_words (Discard reason place) = codes "drop" ∷ octet_word reason ∷ octet_word place ∷ []
note_words (Held id offset held) = codes "held" ∷ hex_text (pair_of id) ∷ decimal offset ∷ decimal held ∷ []
note_words (Repeat id offset) = codes "repeat" ∷ hex_text (pair_of id) ∷ decimal offset ∷ []
note_words (Crowded held size) = codes "crowded" ∷ decimal held ∷ decimal size ∷ []
note_words (Many kept) = codes "many" ∷ decimal kept ∷ []
note_words (NoSlot live) = codes "noslot" ∷ decimal live ∷ []
note_words (Interference id) = codes "interference" ∷ hex_text (pair_of id) ∷ []
note_words (Expired id held) = codes "expired" ∷ hex_text (pair_of id) ∷ decimal held ∷ []
note_words (NotMine to) = codes "notmine" ∷ hex_text to ∷ []
note_words Alien = codes "alien" ∷ []
note_words (BadEsis rule place) = codes "badesis" ∷ rule_word rule ∷ octet_word place ∷ []
note_words (Hear table key heard) = codes "hear" ∷ table_word table ∷ hex_text key ∷ heard_words heard
note_words (Gone table key) = codes "gone" ∷ table_word table ∷ hex_text key ∷ []
note_words (Ignored rd) = codes "ignored" ∷ ignored_word rd ∷ []
note_words Restart = codes "restart" ∷ []
note_words (Congest on) = codes "congest" ∷ on_or_off on ∷ []
note_words (Route prefix) = codes "route" ∷ prefix_text prefix ∷ []
note_words (Unroute prefix there) = codes "unroute" ∷ prefix_text prefix ∷ yes_or_no there ∷ []
note_words (Port port subnet snpa) = codes "port" ∷ decimal port ∷ subnet ∷ hex_text snpa ∷ []

-- A line: what a system notes, a frame that it transmits as a copy with a number on a port, a copy that isn't there
-- for it to be given, or one that is too old to be given; a frame from outside that became a copy on a subnetwork; or a
-- subnetwork that takes frames of so many octets from now on. And what becomes of copies, which a trace tells and a journal
-- doesn't: one comes to a system on a port, one is lost, or one is settled that is for nobody.
pub data Line : Type 0 where
  Noted : (now : ℕ) (name : List ℕ) (note : Note) → Line
  Transmitted : (now : ℕ) (name : List ℕ) (copy : ℕ) (port : ℕ) (target : Target) (frame : List ℕ) → Line
  Void : (now : ℕ) (name : List ℕ) (copy : ℕ) → Line
  Late : (now : ℕ) (name : List ℕ) (copy : ℕ) → Line
  Injected : (now : ℕ) (copy : ℕ) (subnet sender : List ℕ) (target : Target) → Line
  Resized : (now : ℕ) (subnet : List ℕ) (mtu : ℕ) → Line
  Received : (now : ℕ) (name : List ℕ) (copy : ℕ) (port : ℕ) → Line
  Lost : (now : ℕ) (copy : ℕ) → Line
  ForNobody : (now : ℕ) (copy : ℕ) → Line

-- whether a journal has such a line
abbrev pub is_in_journal : Line → Bool
is_in_journal (Received now name copy port) = false
is_in_journal (Lost now copy) = false
is_in_journal (ForNobody now copy) = false
is_in_journal _ = true

-- the text of a line that a trace has and a journal hasn't
abbrev pub traced : Telling → List ℕ → List ℕ
traced telling.Journal text = []
traced telling.Trace text = text

-- The text of a line in a journal, or in a trace. Each begins with the moment and the system's name, or `-` where no system
-- did it.
abbrev pub told_text : Telling → Line → List ℕ
told_text form (Noted now name note) = line_of (decimal now) (name ∷ note_words note)
told_text form (Transmitted now name copy port target frame) =
    line_of (decimal now) (name ∷ codes "tx" ∷ decimal copy ∷ decimal port ∷ target_text target ∷ octets_word frame ∷ [])
told_text form (Void now name copy) = line_of (decimal now) (name ∷ codes "void" ∷ decimal copy ∷ [])
told_text form (Late now name copy) = line_of (decimal now) (name ∷ codes "late" ∷ decimal copy ∷ [])
told_text form (Injected now copy subnet sender target) =
    line_of (decimal now) (codes "-" ∷ codes "inject" ∷ decimal copy ∷ subnet ∷ hex_text sender ∷ target_text target ∷ [])
told_text form (Resized now subnet mtu) = line_of (decimal now) (codes "-" ∷ codes "mtu" ∷ subnet ∷ decimal mtu ∷ [])
told_text form (Received now name copy port) =
    traced form (line_of (decimal now) (name ∷ codes "rx" ∷ decimal copy ∷ decimal port ∷ []))
told_text form (Lost now copy) = traced form (line_of (decimal now) (codes "-" ∷ codes "lost" ∷ decimal copy ∷ []))
told_text form (ForNobody now copy) = traced form (line_of (decimal now) (codes "-" ∷ codes "nobody" ∷ decimal copy ∷ []))

-- the text of a line in a journal
abbrev pub line_text : Line → List ℕ
line_text line = told_text telling.Journal line

-- the text of a line in a trace
abbrev pub trace_text : Line → List ℕ
trace_text line = told_text telling.Trace line

-- the last line of a journal: the clock and the number of copies
abbrev pub end_text : ℕ → ℕ → List ℕ
end_text now copies = line_of (codes "end") (decimal now ∷ decimal copies ∷ [])
