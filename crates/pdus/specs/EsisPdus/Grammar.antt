-- Which octets are an ES-IS PDU: a relation between a value and its octets (ISO 9542, section 7).
use Rattle.std.specs.Prelude.{◌≡◌, ℕ, ◌^◌, ◌<◌, ◌≤◌, List, ◌++◌, length, Option, None, Some, All, AllPairs}
use Rattle.pdus.specs.Nsap.Address.{IsAddress}
use Rattle.pdus.specs.ClnpOptions.Parameter.{Parameter}
use Rattle.pdus.specs.declared.esis_pdus.pdu.EsisBody.{EsisBody}
use Rattle.pdus.specs.declared.esis_pdus.pdu.EsisBody.TheVariants.{Esh, Ish, Rd}
use Rattle.pdus.specs.EsisPdus.Timer.{timer}
use Rattle.pdus.specs.EsisPdus.Value.{EsisValue}
use Rattle.pdus.specs.EsisPdus.Spelling.{spelling, header_length}

abbrev pub IsTitleOrNone : Option (List ℕ) → Type 0
IsTitleOrNone None = Unit {0}
IsTitleOrNone (Some title) = IsAddress title

-- each address, subnetwork address and title is 1 to 20 octets (sections 7.3 and 7.4)
abbrev pub HasAddresses : EsisBody → Type 0
HasAddresses (Esh addresses) = All IsAddress addresses
HasAddresses (Ish title) = IsAddress title
HasAddresses (Rd to via title) = IsAddress to × IsAddress via × IsTitleOrNone title

-- at most one timer is suggested, in two octets
pub record HasOneTimer (options : List Parameter) : Type 0 where
  pub two_octets : All (λ option. option.code ≡ timer → length option.value ≡ 2) options
  pub once : AllPairs (λ a b. a.code ≡ timer → b.code ≡ timer → ⊥) options

-- the timer is an option of intermediate system hellos alone; elsewhere its code is one of those that are skipped
abbrev pub FitsTimer : EsisBody → List Parameter → Type 0
FitsTimer (Esh addresses) options = Unit {0}
FitsTimer (Ish title) options = HasOneTimer options
FitsTimer (Rd to via title) options = Unit {0}

-- what a value must be so that a PDU can carry it
pub record IsPdu (v : EsisValue) : Type 0 where
  pub holding : v.holding < 2 ^ 16
  pub addresses : HasAddresses v.body
  pub timer : FitsTimer v.body v.options
  pub header_fits : header_length v ≤ 254

pub record Spells (v : EsisValue) (octets : List ℕ) : Type 0 where
  pub pdu : IsPdu v
  pub octets_are : octets ≡ spelling v

-- the frame is a PDU of this value, and then the rest
pub record BeginsWith (frame : List ℕ) (v : EsisValue) (rest : List ℕ) : Type 0 where
  pub octets : List ℕ
  pub spells : Spells v octets
  pub split : frame ≡ octets ++ rest
