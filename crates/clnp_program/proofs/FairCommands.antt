pub mod Frames
pub mod Expired
pub mod Arriving
pub mod Writing
pub mod Sums
pub mod Accepted
pub mod Apart
mod Worked
