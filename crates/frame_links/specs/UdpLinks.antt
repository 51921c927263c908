pub mod Sockets
pub mod Receivers
