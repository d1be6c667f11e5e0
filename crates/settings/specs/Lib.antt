pub mod Places
pub mod Settings
pub mod Ranges
pub mod Entries
pub mod InRange
pub mod Before
pub mod Cases
