pub mod Forms
pub mod Items
pub mod Limits
pub mod Numbers
pub mod Ranges
pub mod Statements
