pub mod Masks
pub mod Asleep
pub mod Table
