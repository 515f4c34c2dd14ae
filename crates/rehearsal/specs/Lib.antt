pub mod Steps
pub mod Runs
pub mod Associations
pub mod Laws
pub mod Rehearsed
