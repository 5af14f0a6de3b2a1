pub mod Chains
pub mod Fronts
pub mod Rows
pub mod Sets
pub mod Tests
pub mod Turns
pub mod Bits
