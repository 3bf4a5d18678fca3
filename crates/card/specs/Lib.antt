pub mod Refusals
pub mod Tags
pub mod Entries
pub mod Reading
pub mod Loading
pub mod Laws
pub mod Helpers
