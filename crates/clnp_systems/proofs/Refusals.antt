-- Why a unit isn't made: the first cause that holds.
use Rattle.std.proofs.Common.{◌≡◌, ℕ, ◌<◌, ◌≤◌, Bool, true, Option, Some, List, length, not, nat_lt, sym, ap, subst, ◌∙◌, arith, if◌then◌else◌}
use Rattle.std.proofs.lemmas.Bool.Decides.{nat_tests}
use Rattle.clnp_machine.specs.ClnpPlan.Configuration.{SystemConfiguration}
use Rattle.clnp_machine.specs.ClnpPlan.declared.ask.SendRefusal.{SendRefusal}
use Rattle.clnp_machine.specs.ClnpPlan.declared.ask.SendRefusal.TheVariants as send_refusal
use Rattle.clnp_machine.specs.ClnpPlan.declared.note.Note.{Note}
use Rattle.clnp_machine.specs.ClnpPlan.declared.note.Note.TheVariants.{Refused}
use Rattle.clnp_machine.specs.ClnpPlan.declared.note.Why.TheVariants as why
use Rattle.clnp_machine.specs.Unit.{DataUnit}
use Rattle.clnp_machine.specs.System.{SystemState}
use Rattle.clnp_machine.specs.Local.{has_address, header_size, identifier_refusal, is_own, refusal}
use Rattle.clnp_systems.specs.LocalState.{EntityState}
use Rattle.clnp_systems.specs.Local.{IsWhy, Stands}

-- the refusal, by what it depends on
abbrev pub first_of : Bool → (octets head_len : ℕ) → Option Note → Option Note
first_of own octets head_len last =
    if not own then Some (Refused why.NotMine 0)
    else if nat_lt 64512 octets then Some (Refused why.TooLong octets)
    else if nat_lt 254 head_len then Some (Refused why.TooLong head_len)
    else last

long_header : (own : Bool) (octets head_len : ℕ) (last : Option Note) → own ≡ true → octets ≤ 64512 → 254 < head_len
    → first_of own octets head_len last ≡ Some (Refused why.TooLong head_len)
long_header own octets head_len last mine few long = grind (arith, nat_tests)

none_before : (own : Bool) (octets head_len : ℕ) (last : Option Note) → own ≡ true → octets ≤ 64512 → head_len ≤ 254
    → first_of own octets head_len last ≡ last
none_before own octets head_len last mine few short = grind (arith, nat_tests)

-- an address of the configuration is one of the system's
pub own_of : (local : EntityState) (s : SystemState) (address : List ℕ) (own : Bool) → Stands local s
    → own ≡ has_address local.configuration address → own ≡ is_own s address
own_of local s address own stands e = e ∙ ap (λ (c : SystemConfiguration). has_address c address) stands.configuration

module _ (s : SystemState) (u : DataUnit) (own : Bool) (mine : own ≡ is_own s u.source) where
  -- its header has too many octets
  pub why_long_header : (e : SendRefusal) → own ≡ true → length u.octets ≤ 64512
      → (e ≡ send_refusal.TooLong (header_size u)) × (254 < header_size u) → IsWhy e (refusal s u)
  why_long_header e is_mine few (is, long) =
      subst (λ (r : SendRefusal). IsWhy r (refusal s u)) (sym is)
      (long_header (is_own s u.source) (length u.octets) (header_size u) (identifier_refusal s u.identifier) (sym mine ∙ is_mine) few long)

  -- it has no other refusal than for want of an identifier
  pub refusal_last : own ≡ true → length u.octets ≤ 64512 → header_size u ≤ 254 → refusal s u ≡ identifier_refusal s u.identifier
  refusal_last is_mine few short =
      none_before (is_own s u.source) (length u.octets) (header_size u) (identifier_refusal s u.identifier) (sym mine ∙ is_mine) few short
