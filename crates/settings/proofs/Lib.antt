-- What the proofs of several functions cite.
pub mod Made
pub mod Before
pub mod NotDash
