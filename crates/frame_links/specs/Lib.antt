pub use Rattle.pdus.specs.ClnpBase
pub mod LinkBoard
pub mod PcapFrames
pub mod UdpLinks
