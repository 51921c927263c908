pub use Rattle.clnp_base.specs as ClnpBase
pub use Rattle.clnp_base.specs.CommandBase
pub use Rattle.frame_links.specs.PcapFrames
pub mod Captures
pub mod Kept
pub mod Words
pub mod EsisShown
pub mod Shown
pub mod Vectors
pub mod CaptureText
pub mod CaptureCommands
