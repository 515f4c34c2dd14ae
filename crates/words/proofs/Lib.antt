pub mod Cuts
pub mod Decimal
pub mod Indexed
pub mod Numerals
pub mod Pairs
pub mod Readings
