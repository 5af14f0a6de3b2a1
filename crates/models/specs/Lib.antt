pub mod Charts
pub mod Facts
pub mod Judging
pub mod Listed
pub mod Meanings
pub mod Semantics
pub mod Tables
