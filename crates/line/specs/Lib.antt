pub mod Limits
pub mod Words
pub mod Values
pub mod Calls
pub mod Reading
pub mod Spelling
pub mod Texts
pub mod Buffer
