pub mod Cases
pub mod HeldLines
pub mod WholeLines
