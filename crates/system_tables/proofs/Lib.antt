pub mod ReassemblyFacts
pub mod FairReassembly
pub mod EsisTables
pub mod ForwardingFacts
