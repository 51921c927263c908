-- The pieces of a PDU, as the code gives them out.
use Rattle.std.specs.Prelude.{◌++◌, Bool}
use Rattle.clnp_machine.specs.ClnpViews.Extent.{Extent, part, seen}
use Rattle.clnp_machine.specs.Pdus.declared.made_pdus.cuts.Cut.{Cut}
use Rattle.clnp_machine.specs.ClnpPlan.declared.output.Output.{Output}
use Rattle.clnp_machine.specs.ClnpPlan.declared.output.Output.TheVariants.{Transmit}
use Rattle.clnp_machine.specs.ClnpPlan.declared.output.Sending.{Sending}
use Rattle.clnp_machine.specs.declared.way.Hop.{Hop}

-- the frame of a piece of some data, of a PDU that is forwarded or was made here
abbrev pub piece_frame : (forwarded : Bool) → Hop → Extent → Cut → Sending
piece_frame forwarded hop body cut =
    record { port = hop.port; to = hop.target; frame = cut.head ++ seen (part cut.from cut.len body); forwarded = forwarded }

abbrev pub transmission : (forwarded : Bool) → Hop → Extent → Cut → Output
transmission forwarded hop body cut = Transmit (piece_frame forwarded hop body cut)
