-- What lies in front of shared octets begins as a CLNP PDU.
use Rattle.std.proofs.Common.{[], ◌∷◌, ◌≡◌, ◌≢◌, ◌++◌, ◌∙◌, List, ℕ, ap, arith, sym}
use Rattle.clnp_machine.specs.ClnpViews.Parted.{IsFront}
use Rattle.clnp_machine.specs.PduHeader.Rules.{octet}
use Rattle.clnp_systems.proofs.entity.steps.octets_of.Goals as goal

in_one : (front behind frame : List ℕ) → IsFront front → front ++ behind ≡ frame → octet frame 1 ≢ 0x81 → behind ≡ frame
in_one [] behind frame header both other = both
in_one (first ∷ others) behind frame header both other =
    absurd (other (ap (λ octets. octet octets 1) (sym both) ∙ (header (omega arith)).protocol))

pub returns : goal.returns
returns c = in_one c.parts.result.0.now c.parts.result.1.now c.args.frame.now c.parts.ensures.front c.parts.ensures.octets c.requires
