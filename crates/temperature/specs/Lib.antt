pub mod Temperature
pub mod Sixteenths
pub mod Raised
pub mod Order
pub mod Shows
pub mod Cases
