pub mod Looking
pub mod Places
pub mod Sending
pub mod Parts
pub mod Peers
pub mod Lines
pub mod Playing
pub mod EndSnpas
