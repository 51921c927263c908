pub mod Cut
pub mod Left
pub mod Pieces
pub mod Range
pub mod Report
pub mod Told
pub mod Reply
pub mod Match
