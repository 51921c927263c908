-- The lengths of headers, and what stands at the front of a frame: the laws of PDUs on which the machine's laws stand.
pub use Rattle.clnp_plan.proofs.PduHeader.Changed.{header_length-is, segment_kept}
pub use Rattle.clnp_plan.proofs.PduHeader.Written.{length-header}
pub use Rattle.clnp_plan.proofs.PduHeader.Frames.{front, is_front, nothing_spelled, other_protocol}
pub use Rattle.clnp_plan.proofs.PduHeader.Read.{read_as}
