pub mod BlockPart
pub mod Blocks
pub mod Bytewise
pub mod Changes
pub mod Locked
pub mod ReadOn
pub mod Stands
pub mod Transactions
