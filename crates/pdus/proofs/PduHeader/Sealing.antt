-- The checksum of the header of a value is as the value wants it, and no other would do.
use Rattle.std.proofs.Common.{◌≡◌, ◌∙◌, refl, sym, ap, subst, ℕ, ◌<◌, ◌≤◌, Bool, true, false, List, ◌++◌, length, arith}
use Rattle.std.specs.Prelude.{◌↔◌}
use Rattle.pdus.specs.Fletcher.Checksum.{octet, IsSealed, sealed, with_checksum}
use Rattle.pdus.specs.Fletcher.Laws.{HasChecksum, IsSealedOnce, SharesOthers}
use Rattle.pdus.specs.PduHeader.Value.{PduValue}
use Rattle.pdus.specs.PduHeader.Spelling.{header, unsealed_header}
use Rattle.pdus.specs.PduHeader.Grammar.{Spells}
use Rattle.pdus.specs.PduHeader.Parts.{checked}
use Rattle.pdus.specs.PduHeader.Headers.{SpellsHeader}
use Rattle.pdus.specs.PduHeader.Account.{IsLaidOut}

-- the laws of the checksum that are cited
abbrev pub Once : Type 0
Once = (head : List ℕ) → 9 ≤ length head → IsSealedOnce head

abbrev pub Shares : Type 0
Shares = (head : List ℕ) → 9 ≤ length head → SharesOthers head (sealed head)

abbrev pub Only : Type 0
Only = (head other : List ℕ) → 9 ≤ length head → SharesOthers head other → octet other 8 < 256 → octet other 9 < 256 → IsSealed other → other ≡ sealed head

long : (v : PduValue) → 9 ≤ length (unsealed_header v)
long v = omega arith

has_if : Once → (is_sealed : Bool) (v : PduValue) → HasChecksum is_sealed (checked is_sealed (unsealed_header v))
has_if once true v = (once (unsealed_header v) (long v)).exists
has_if once false v = (refl, refl)

pub has_wanted : Once → (v : PduValue) (octets : List ℕ) → SpellsHeader v octets → HasChecksum v.sealed octets
has_wanted once v octets h = let P : List ℕ → Type 0 = HasChecksum v.sealed in subst P (sym h.octets_are) (has_if once v.sealed v)

one_way : (a b : Bool) (head : List ℕ) → HasChecksum a head → HasChecksum b head → a ≡ b
one_way true true head h k = refl
one_way true false head h k = absurd (h.octet_8 k.0)
one_way false true head h k = absurd (k.octet_8 h.0)
one_way false false head h k = refl

pub only_wanted : Once → (v : PduValue) (octets : List ℕ) (is_sealed : Bool) → SpellsHeader v octets → HasChecksum is_sealed octets → is_sealed ≡ v.sealed
only_wanted once v octets is_sealed h has = one_way is_sealed v.sealed octets has (has_wanted once v octets h)

-- a header with the octets of the layout and a checksum as wanted is that of the value
made_if : Only → (is_sealed : Bool) (v : PduValue) (head : List ℕ) → SharesOthers (unsealed_header v) head → octet head 8 < 256 → octet head 9 < 256
    → HasChecksum is_sealed head → head ≡ checked is_sealed (unsealed_header v)
made_if only true v head shares x y is = only (unsealed_header v) head (long v) shares x y is
made_if only false v head shares x y is =
    shares ∙ ap (λ t. with_checksum (unsealed_header v) t (octet head 9)) is.0 ∙ ap (λ t. with_checksum (unsealed_header v) 0 t) is.1

-- the octets of a header with another checksum are still those of the layout
shares_if : (is_sealed : Bool) (v : PduValue) (x y : ℕ) → SharesOthers (unsealed_header v) (with_checksum (checked is_sealed (unsealed_header v)) x y)
unfolding sealed
shares_if true v x y = refl
shares_if false v x y = refl

octets_if : (is_sealed : Bool) (v : PduValue) (x y : ℕ) → (octet (with_checksum (checked is_sealed (unsealed_header v)) x y) 8 ≡ x) × (octet (with_checksum (checked is_sealed (unsealed_header v)) x y) 9 ≡ y)
unfolding sealed
octets_if true v x y = (refl, refl)
octets_if false v x y = (refl, refl)

no_other_if : Only → (is_sealed : Bool) (v : PduValue) (x y : ℕ) → x < 256 → y < 256 → HasChecksum is_sealed (with_checksum (checked is_sealed (unsealed_header v)) x y)
    → with_checksum (checked is_sealed (unsealed_header v)) x y ≡ checked is_sealed (unsealed_header v)
no_other_if only is_sealed v x y x_small y_small is =
    let at = octets_if is_sealed v x y in
    made_if only is_sealed v _ (shares_if is_sealed v x y) (omega (arith, at.0)) (omega (arith, at.1)) is

pub no_other : Only → (v : PduValue) (octets : List ℕ) (x y : ℕ) → SpellsHeader v octets → x < 256 → y < 256 → HasChecksum v.sealed (with_checksum octets x y) → with_checksum octets x y ≡ octets
no_other only v octets x y h x_small y_small is =
    let P : List ℕ → Type 0 = λ t. HasChecksum v.sealed (with_checksum t x y) in
    ap (λ t. with_checksum t x y) h.octets_are ∙ no_other_if only v.sealed v x y x_small y_small (subst P h.octets_are is) ∙ sym h.octets_are

laid_out_if : Once → Shares → (is_sealed : Bool) (v : PduValue) → SharesOthers (unsealed_header v) (checked is_sealed (unsealed_header v)) × (octet (checked is_sealed (unsealed_header v)) 8 < 256) × (octet (checked is_sealed (unsealed_header v)) 9 < 256)
laid_out_if once shares true v = (shares (unsealed_header v) (long v), (once (unsealed_header v) (long v)).octet_8, (once (unsealed_header v) (long v)).octet_9)
laid_out_if once shares false v = (refl, omega arith, omega arith)

pub spelled_where_laid_out : Once → Shares → Only → (v : PduValue) (octets : List ℕ) → Spells v octets ↔ IsLaidOut v octets
spelled_where_laid_out once shares only v octets = (
  λ h. let out = laid_out_if once shares v.sealed v in
      record { pdu = h.pdu; head = header v; split = h.octets_are; layout = out.0; octet_8 = out.1; octet_9 = out.2; checksum = has_if once v.sealed v },
  λ k. record { pdu = k.pdu; octets_are = k.split ∙ ap (λ t. t ++ v.body) (made_if only v.sealed v k.head k.layout k.octet_8 k.octet_9 k.checksum) },
)
