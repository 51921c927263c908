-- Reasons for discard that no rule of PDUs gives.
use Rattle.std.proofs.Common.{◌≡◌, ◌==◌, ℕ, false, refl}
use Rattle.std.proofs.lemmas.Bool.{eqb-false}
use Rattle.clnp_plan.specs.Pdus.declared.clnp_options.reasons.Reason.TheVariants.{Congestion, DestinationUnknown, LifetimeExpiredInReassembly, LifetimeExpiredInTransit, PathNotAcceptable, ReassemblyInterference, SegmentationNotPermitted, UnknownAddressInRoute}
use Rattle.clnp_plan.specs.ClnpOptions.Reasons.{reason_code}
use Rattle.clnp_plan.specs.PduHeader.Table.{table}
use Rattle.clnp_machine.specs.Told.{IsOfNoRule}

-- a reason that differs from those of the rules
of_none : (reason : ℕ) → (0x02 == reason) ≡ false → (0x04 == reason) ≡ false → (0x06 == reason) ≡ false → (0x07 == reason) ≡ false → (0x91 == reason) ≡ false → (0xb0 == reason) ≡ false → (0xb1 == reason) ≡ false → (0xb2 == reason) ≡ false
    → IsOfNoRule reason
unfolding table
of_none reason checksum syntax incomplete duplicate route option version security frame = (
  eqb-false 0x06 reason incomplete,
  (
    eqb-false 0x04 reason syntax,
    (
      eqb-false 0x06 reason incomplete,
      (
        eqb-false 0xb1 reason version,
        (
          eqb-false 0x02 reason checksum,
          (
            eqb-false 0x04 reason syntax,
            (
              eqb-false 0x04 reason syntax,
              (
                eqb-false 0x04 reason syntax,
                (
                  eqb-false 0x04 reason syntax,
                  (
                    eqb-false 0x04 reason syntax,
                    (eqb-false 0x04 reason syntax, (eqb-false 0x06 reason incomplete, (eqb-false 0x04 reason syntax, (eqb-false 0x04 reason syntax, (eqb-false 0x07 reason duplicate, (eqb-false 0xb0 reason option, (eqb-false 0xb2 reason security, (eqb-false 0x91 reason route, (eqb-false 0x04 reason syntax, (eqb-false 0x04 reason syntax, tt)))))))))),
                  ),
                ),
              ),
            ),
          ),
        ),
      ),
    ),
  ),
)

pub congestion : IsOfNoRule (reason_code Congestion)
congestion = of_none 0x03 refl refl refl refl refl refl refl refl

pub segmentation : IsOfNoRule (reason_code SegmentationNotPermitted)
segmentation = of_none 0x05 refl refl refl refl refl refl refl refl

pub unknown : IsOfNoRule (reason_code DestinationUnknown)
unknown = of_none 0x81 refl refl refl refl refl refl refl refl

pub unknown_in_route : IsOfNoRule (reason_code UnknownAddressInRoute)
unknown_in_route = of_none 0x92 refl refl refl refl refl refl refl refl

pub path : IsOfNoRule (reason_code PathNotAcceptable)
path = of_none 0x93 refl refl refl refl refl refl refl refl

pub transit : IsOfNoRule (reason_code LifetimeExpiredInTransit)
transit = of_none 0xa0 refl refl refl refl refl refl refl refl

pub expired : IsOfNoRule (reason_code LifetimeExpiredInReassembly)
expired = of_none 0xa1 refl refl refl refl refl refl refl refl

pub interference : IsOfNoRule (reason_code ReassemblyInterference)
interference = of_none 0xc0 refl refl refl refl refl refl refl refl
