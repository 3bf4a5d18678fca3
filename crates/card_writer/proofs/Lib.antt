pub mod Growing
pub mod Longest
pub mod Places
pub mod Writes
