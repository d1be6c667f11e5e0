pub mod Line
pub mod Session
pub mod Clamped
pub mod Comes
pub mod Kept
pub mod Room
