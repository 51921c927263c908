pub mod Reassembly
pub mod FairReassembly
pub mod EsisTables
pub mod Forwarding
