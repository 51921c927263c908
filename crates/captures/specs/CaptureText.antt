pub mod Packing
pub mod Said
pub mod Words
pub mod Laid
pub mod View
pub mod Outcome
