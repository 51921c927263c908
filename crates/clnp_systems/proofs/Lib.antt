pub mod HostPassing
pub mod RouterPassing
pub mod Going
pub mod Better
pub mod Behind
pub mod Given
mod Effects
mod Hearing
mod Forgetting
mod Fronts
mod Lengths
mod LookingUp
mod Redirects
mod Saying
mod EsisTicking
pub mod Buffers
pub mod Uses
pub mod Pools
pub mod Rest
pub mod Held
pub mod Parts
pub mod Refusals
pub mod Making
pub mod Shown
pub mod Appending
pub mod Requests
pub mod Echoing
pub mod Reporting
pub mod Offers
pub mod Joined
pub mod Completed
pub mod Offering
pub mod Receiving
pub mod Expiry
pub mod Ticking
pub mod Sent
pub mod Pieces
pub mod EntityParts
pub mod Outputs
pub mod Arrivals
pub mod Hops
pub mod Receipt
pub mod Packets
pub mod Refused
pub mod Both
pub mod Kept
pub mod Changing
pub mod Working
