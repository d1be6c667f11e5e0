pub mod ProvedCases
