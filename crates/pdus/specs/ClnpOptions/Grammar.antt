-- Which lists of options a header may have, and which octets spell them: a relation by parts.
-- (ISO/IEC 8473, sections 7.5.2 to 7.5.7 and 7.9.5.)
use Rattle.std.specs.Prelude.{◌≡◌, ◌⊎◌, ◌↔◌, ℕ, ◌+◌, ◌<◌, ◌≤◌, Bool, IsTrue, List, [], ◌∷◌, ◌++◌, length, take, drop, slice_index, All, Any, AllPairs, Contains}
use Rattle.pdus.specs.ClnpOptions.Parameter.{Parameter, padding, security, source_route, recording, quality, priority, reason, known_codes, spelled}

-- a network entity title has 1 to 20 octets
abbrev pub IsTitle : List ℕ → Type 0
IsTitle title = (1 ≤ length title) × (length title ≤ 20)

-- titles one after another, each after its length octet
unfoldable pub joined : List (List ℕ) → List ℕ
joined [] = []
joined (title ∷ others) = (length title ∷ title) ++ joined others

-- a place where one of the titles begins, counted in a value whose first title's length octet has place 3
abbrev pub IsPlaceOfTitle : List (List ℕ) → ℕ → Type 0
IsPlaceOfTitle titles place = (n : ℕ) × (n < length titles) × (place ≡ 3 + length (joined (take n titles)))

-- the first octet's two high bits are a format, and not the reserved format 00
pub record HasFormat (value : List ℕ) : Type 0 where
  pub present : 1 ≤ length value
  pub format : 64 ≤ slice_index value 0

-- kind, pointer and titles: the pointer is the place of a title, or above the length, where the route is exhausted
pub record IsSourceRoute (value : List ℕ) : Type 0 where
  pub long : 2 ≤ length value
  pub kind : slice_index value 0 ≤ 1
  pub titles : List (List ℕ)
  pub each : All IsTitle titles
  pub filled : drop 2 value ≡ joined titles
  pub pointer : (length value < slice_index value 1) ⊎ IsPlaceOfTitle titles (slice_index value 1)

-- titles, then room: the pointer is the first place that isn't used
pub record IsRecorded (value : List ℕ) : Type 0 where
  pub titles : List (List ℕ)
  pub room : List ℕ
  pub each : All IsTitle titles
  pub filled : drop 2 value ≡ joined titles ++ room
  pub pointer : slice_index value 1 ≡ 3 + length (joined titles)

-- kind, pointer, and titles with room behind them; a pointer of 255 says that recording was ended
pub record IsRecording (value : List ℕ) : Type 0 where
  pub long : 2 ≤ length value
  pub kind : slice_index value 0 ≤ 1
  pub pointer : (slice_index value 1 ≡ 255) ⊎ IsRecorded value

-- the code is one of the table, and the value has the form that the table gives for it
pub record HasForm (option : Parameter) : Type 0 where
  pub known : Contains known_codes option.code
  pub security_form : option.code ≡ security → HasFormat option.value
  pub source_route_form : option.code ≡ source_route → IsSourceRoute option.value
  pub recording_form : option.code ≡ recording → IsRecording option.value
  pub quality_form : option.code ≡ quality → HasFormat option.value
  pub priority_form : option.code ≡ priority → length option.value ≡ 1
  pub reason_form : option.code ≡ reason → length option.value ≡ 2

-- each option has its form, and no code but padding comes twice
pub record AreFormed (options : List Parameter) : Type 0 where
  pub formed : All HasForm options
  pub distinct : AllPairs (λ a b. a.code ≡ b.code → a.code ≡ padding) options

-- a part of a header spells these options, and they are formed as they should be
pub record Forms (options : List Parameter) (part : List ℕ) : Type 0 where
  pub octets : part ≡ spelled options
  pub formed : AreFormed options

-- a reason for discard stands in an error report, and in no other PDU
abbrev pub FitsKind : Bool → List Parameter → Type 0
FitsKind is_report options = IsTrue is_report ↔ Any (λ option. option.code ≡ reason) options

-- a part of a header spells these options, which a PDU of this kind may have
pub record Spells (is_report : Bool) (options : List Parameter) (part : List ℕ) : Type 0 where
  pub octets : part ≡ spelled options
  pub formed : AreFormed options
  pub kind : FitsKind is_report options
