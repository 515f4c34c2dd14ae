pub mod Both
pub mod Declarations
pub mod Statements
