pub mod Tests
pub mod Products
pub mod Substitution
pub mod Expansion
pub mod Rounds
pub mod Examples
pub mod Bounds
