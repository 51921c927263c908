pub mod Extent
pub mod Parted
