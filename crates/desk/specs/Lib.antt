pub mod Answers
pub mod Desk
