pub mod Choices
pub mod Decimals
mod Ends
pub mod Filters
pub mod Found
pub mod Hexadecimal
pub mod Laid
pub mod ListSteps
pub mod Lists
pub mod Maps
pub mod PlainWords
pub mod Pouring
pub mod Ranges
pub mod Reading
pub mod SameOctets
pub mod Sums
pub mod Supplying
mod Worths
pub mod CommandBase
