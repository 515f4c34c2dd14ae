pub mod Field
pub mod Sbox
pub mod State
pub mod Keys
pub mod Cipher
pub mod Examples
