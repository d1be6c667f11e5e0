pub mod Marks
pub mod Alerts
pub mod ButZones
pub mod InError
pub mod Keeps
pub mod MaskedBits
