pub mod Links
pub mod Memory
pub mod Outbox
pub mod Ports
pub mod Ends
pub mod Words
pub mod Recording
