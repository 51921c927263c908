-- What the header of a unit is made from, and when it is too long.
use Rattle.std.proofs.Common.{◌≡◌, ℕ, ◌<◌, Bool, true, Some, None, List, length, refl, sym, ap, arith, if◌then◌else◌}
use Rattle.std.proofs.lemmas.Bool.Decides.{nat_tests}
use Rattle.clnp_machine.specs.ClnpOptions.Parameter.{parameters, spelled}
use Rattle.clnp_machine.specs.ClnpOptions.Rules.{IsWellFormed}
use Rattle.clnp_machine.specs.Pdus.declared.pdu_header.pdu.SegPart.{SegPart}
use Rattle.clnp_machine.specs.Pdus.declared.pdu_header.header.HeaderRefusal.TheVariants.{HeaderTooLong}
use Rattle.clnp_machine.specs.PduHeader.Parts.{too_long}
pub use Rattle.clnp_machine.proofs.PduHeader.Written.{length-header, options_spelled}

-- options have as many octets as they spell
pub options_size : (octets options : List ℕ) → octets ≡ options → IsWellFormed octets → length (spelled (parameters options)) ≡ length octets
options_size octets options same formed = ap length (sym (options_spelled octets options same formed))

-- the segmentation part is the one that a unit has which may be segmented
pub part_there : (segment : Bool) (id next total whole : ℕ) → id ≡ next → total ≡ whole → segment ≡ true
    → Some (let part : SegPart = record { id = id; offset = 0; total = total } in part)
    ≡ (if segment then Some (let part : SegPart = record { id = next; offset = 0; total = whole } in part) else None)
part_there segment id next total whole same_id same_total is_true = rw (same_id, same_total, is_true) refl

-- a header that is refused for its length has more than 254 octets, so many
pub too_long_header : (head_len body_len octets : ℕ) → too_long head_len body_len ≡ Some (HeaderTooLong octets) → (octets ≡ head_len) × (254 < head_len)
too_long_header head_len body_len octets refused = grind (arith, nat_tests)
