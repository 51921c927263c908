pub use Rattle.pdus.proofs.NsapFacts as Nsap
pub mod LinkBoard
pub mod PcapFrames
pub mod UdpLinks
