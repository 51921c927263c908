-- Which frame a shown line packs to.
use Rattle.std.specs.Prelude.{◌≡◌, ℕ, ◌<◌, ◌≤◌, ◌==◌, ◌||◌, Bool, true, false, List, take, length, codes, None, MatchBool, Result, Ok, Err}
use Rattle.std.specs.Str.{bytes_eq}
use Rattle.hex.specs.Hex.{IsBytes}
use Rattle.pdus.specs.PduHeader.Rules.{octet, refusal}
use Rattle.pdus.specs.EsisPdus.Rules.{why_refused}
use Rattle.captures.specs.Captures.{is_skipped, most_octets}
use Rattle.captures.specs.Shown.{Shows}
use Rattle.captures.specs.declared.capture_text.refusal.PackRefusal.{PackRefusal}
use Rattle.captures.specs.declared.capture_text.refusal.PackRefusal.TheVariants.{NotPackable, NotShown, Count, NoMemory}

-- the frame begins with 0x81 and breaks no rule of CLNP, or else it is an ES-IS PDU's and breaks none of those rules
abbrev pub IsAccepted : List ℕ → Type 0
IsAccepted frame = MatchBool (octet frame 1 == 0x81) (refusal frame ≡ None) (why_refused frame ≡ None)

-- the frame is accepted, and the line is the one that shows it
pub record Packs (line frame : List ℕ) : Type 0 where
  pub octets : IsBytes frame
  pub accepted : IsAccepted frame
  pub shown : Shows frame line

-- whether a word or a line begins so
abbrev pub has_prefix : List ℕ → List ℕ → Bool
has_prefix prefix text = bytes_eq (take (length prefix) text) prefix

-- the line of a frame that is refused, or of neither protocol
abbrev pub is_unpackable : List ℕ → Bool
is_unpackable line = bytes_eq line (codes "alien") || has_prefix (codes "refused ") line

-- a line that is to be packed
pub record IsAsked (line : List ℕ) : Type 0 where
  pub unskipped : is_skipped line ≡ false
  pub packable : is_unpackable line ≡ false

-- a line that is to be packed, and shows no accepted frame
pub record IsNotShown (line : List ℕ) : Type 0 where
  pub asked : IsAsked line
  pub none : (frame : List ℕ) → Packs line frame → ⊥

-- the line packs to a frame of more octets than a line of a capture may have
pub record PacksTooMuch (line : List ℕ) : Type 0 where
  pub frame : List ℕ
  pub packs : Packs line frame
  pub many : most_octets < length frame

-- the line packs to a frame that a line of a capture may have
pub record PacksWithin (line frame : List ℕ) : Type 0 where
  pub packs : Packs line frame
  pub few : length frame ≤ most_octets

-- What an answer to a line tells. Want of memory alone is free, where the line is to be packed.
abbrev pub Tells : Result Bool PackRefusal → List ℕ → Type 0
Tells (Ok true) line = (frame : List ℕ) × PacksWithin line frame
Tells (Ok false) line = is_skipped line ≡ true
Tells (Err NotPackable) line = is_unpackable line ≡ true
Tells (Err NotShown) line = IsNotShown line
Tells (Err Count) line = PacksTooMuch line
Tells (Err NoMemory) line = IsAsked line

-- why no frame is found of a line that is to be packed
abbrev pub Lacks : PackRefusal → List ℕ → Type 0
Lacks NotShown line = (frame : List ℕ) → Packs line frame → ⊥
Lacks NoMemory line = Unit {0}
Lacks NotPackable line = ⊥
Lacks Count line = ⊥
