pub mod Capacity
pub mod Kept
pub mod Digits
pub mod Reading
pub mod Writing
