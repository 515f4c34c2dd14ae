pub mod Builds
pub mod Order
pub mod Sends
pub mod Tagged
pub mod Takes
