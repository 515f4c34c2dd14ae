pub mod Calls
pub mod Delivered
pub mod Reading
pub mod Receiving
