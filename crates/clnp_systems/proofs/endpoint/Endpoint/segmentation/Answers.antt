use Rattle.std.proofs.Common.{arith}
use Rattle.clnp_systems.proofs.Parts.{options_size, part_there}
use Rattle.clnp_systems.proofs.endpoint.Endpoint.segmentation.Goals as goal

pub returns : goal.returns
returns c =
    let to = c.as_bytes.ensures.octets in
    let from = c.as_bytes-2.ensures.octets in
    let options = options_size c.as_bytes-options.result.now c.args.ask.now.options c.as_bytes-options.ensures.value c.as_bytes-options.ensures.well_formed in
    part_there c.args.ask.now.segment _ _ _ _ c.next.ensures (rw (← to, ← from, options) (omega arith)) c.if-not-ask.false
