pub mod Takes
pub mod Limits
pub mod Ordered
pub mod Written
pub mod Back
pub mod Loads
pub mod Spelling
pub mod Stepping
