-- What the lines of a move come to: their text, or what is counted of them.
use Rattle.std.specs.Prelude.{◌≡◌, ℕ, ◌+◌, ◌-◌, ◌^◌, max, min, List, [], ◌∷◌, ◌++◌, codes, length}
use Rattle.std.specs.List.{filter}
use Rattle.std.specs.Str.{bytes_eq}
use Rattle.clnp_machine.specs.ClnpPlan.Journal.{Line, Noted, Transmitted, Void, Late, Injected, Resized, Received, Lost, ForNobody, note_words}
use Rattle.clnp_machine.specs.ClnpNetwork.Run.{told_lines}
use Rattle.clnp_program.specs.declared.clnp_world.lines.Counts.{Counts}
use Rattle.clnp_program.specs.declared.clnp_world.lines.Line as lines
use Rattle.clnp_program.specs.declared.clnp_world.lines.Line.TheVariants as code
use Rattle.clnp_machine.specs.ClnpPlan.declared.journal.Telling.{Telling}

-- a line of the code
abbrev pub told_of : lines.Line → Line
told_of (code.Noted now name note) = Noted now name.now note.now
told_of (code.Transmitted now name copy port target frame) = Transmitted now name.now copy port target frame.now
told_of (code.Void now name copy) = Void now name.now copy
told_of (code.Late now name copy) = Late now name.now copy
told_of (code.Injected now copy subnet sender target) = Injected now copy subnet.now sender.now target.now
told_of (code.Resized now subnet mtu) = Resized now subnet.now mtu
told_of (code.Received now name copy port) = Received now name.now copy port
told_of (code.Lost now copy) = Lost now copy
told_of (code.ForNobody now copy) = ForNobody now copy

-- the first of some words; no octets where there is none
abbrev pub first_of : List (List ℕ) → List ℕ
first_of [] = []
first_of (first ∷ others) = first

-- the word of a line that says of what kind it is, behind the moment and the name
abbrev pub kind_of : Line → List ℕ
kind_of (Noted now name note) = first_of (note_words note)
kind_of (Transmitted now name copy port target frame) = codes "tx"
kind_of (Void now name copy) = codes "void"
kind_of (Late now name copy) = codes "late"
kind_of (Injected now copy subnet sender target) = codes "inject"
kind_of (Resized now subnet mtu) = codes "mtu"
kind_of (Received now name copy port) = codes "rx"
kind_of (Lost now copy) = codes "lost"
kind_of (ForNobody now copy) = codes "nobody"

-- how many of some lines are of a kind
abbrev pub how_many : (kind : List ℕ) → List Line → ℕ
how_many kind lines = length (filter (λ line. bytes_eq (kind_of line) kind) lines)

-- what is counted of some lines
abbrev pub tally : List Line → Counts
tally lines = record {
  got = how_many (codes "got") lines;
  reports = how_many (codes "report") lines;
  echoed = how_many (codes "echoed") lines;
  drops = how_many (codes "drop") lines;
  expired = how_many (codes "expired") lines;
}

abbrev pub no_lines : Counts
no_lines = record { got = 0; reports = 0; echoed = 0; drops = 0; expired = 0 }

-- what is counted of some lines and of others
abbrev pub both : Counts → Counts → Counts
both a b = record {
  got = a.got + b.got;
  reports = a.reports + b.reports;
  echoed = a.echoed + b.echoed;
  drops = a.drops + b.drops;
  expired = a.expired + b.expired;
}

-- a count rises up to 2^64 - 1, and never falls
abbrev pub rises : (count more : ℕ) → ℕ
rises count more = max count (min (count + more) (2 ^ 64 - 1))

-- so do counts, by what is counted of lines
abbrev pub risen : (counts more : Counts) → Counts
risen a b = record {
  got = rises a.got b.got;
  reports = rises a.reports b.reports;
  echoed = rises a.echoed b.echoed;
  drops = rises a.drops b.drops;
  expired = rises a.expired b.expired;
}

-- what takes lines, as a contract sees it: the text of all that came, in a journal or in a trace, or what is counted of them
pub data Taken : Type 0 where
  Written : Telling → (text : List ℕ) → Taken
  Counted : Counts → Taken

-- what there is once some lines came
abbrev pub gained : Taken → List Line → Taken
gained (Written telling text) lines = Written telling (text ++ told_lines telling lines)
gained (Counted counts) lines = Counted (risen counts (tally lines))

-- exactly some lines came
abbrev pub Gains : (before after : Taken) → List Line → Type 0
Gains before after lines = after ≡ gained before lines
