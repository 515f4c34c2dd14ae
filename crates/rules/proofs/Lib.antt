pub mod Layouts
pub mod Stages
pub mod Ticks
