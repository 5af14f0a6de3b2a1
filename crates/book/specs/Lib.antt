pub mod Contents
pub mod Offers
pub mod Rows
pub mod Views
