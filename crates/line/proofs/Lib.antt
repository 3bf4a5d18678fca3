pub mod Found
pub mod Splits
pub mod Numerals
pub mod Characters
pub mod Spelled
pub mod Printed
