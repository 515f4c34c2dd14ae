pub mod KeyOctets
pub mod Keys
