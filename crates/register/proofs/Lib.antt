pub mod Changes
pub mod Counts
mod Fronts
pub mod Lookups
pub mod Members
mod Positions
