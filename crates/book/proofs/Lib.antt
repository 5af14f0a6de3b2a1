pub mod Apart
pub mod Asked
pub mod Caps
pub mod Gathers
pub mod Included
pub mod Offered
pub mod Pairs
