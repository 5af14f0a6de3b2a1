pub mod Bytes
pub mod Decided
pub mod Pairs
pub mod Sayings
pub mod Truth
pub mod Verdicts
pub mod Words
