pub mod Additions
pub mod Installs
pub mod Preferences
pub mod Protects
pub mod Receives
pub mod Turns
pub mod Writes
