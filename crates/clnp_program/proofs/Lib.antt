pub mod Fit
pub mod ClnpWorld
pub mod NetworkCommands
pub mod LiveNode
pub mod FairCommands
mod CodeNames
