pub mod Implied
pub mod Listed
pub mod Passed
pub mod Turns
